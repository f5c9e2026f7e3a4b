-- Where in the text of a document a path comes to be.
use Rattle.std.specs.Prelude.{◌≡◌, ◌⊎◌, ℕ, List, [], ◌∷◌, ◌++◌, Bool, true, false, not, ◌&&◌, ◌||◌, ◌==◌, ◌-◌, if◌then◌else◌}
use Rattle.std.specs.Prelude.{length, drop, slice_get, slice_index, bytes_eq, Option, Some, None, is_some, option_and_then}
use Rattle.std.specs.List.{list_any}
use Rattle.toml_parser.specs.Lexical.{Read, first, skip_ws, left_bracket, right_brace, right_bracket}
use Rattle.toml_parser.specs.Strings.{Key, key}
use Rattle.toml.specs.Data.{Data, table, get, at, Members}
use Rattle.toml.specs.Tables.{Expression}
use Rattle.toml.specs.Parse.{parse_document, expression, keyval, val}
use Rattle.keyed.specs.declared.step.Step.{Step}
use Rattle.keyed.specs.declared.step.Step.TheVariants.{Key as key_step, Index as index_step}

-- what a step leads to, and a path
abbrev pub step_to : Step → Data → Option Data
step_to (key_step k) d = get k.now d
step_to (index_step n) d = at n d

abbrev pub at_path : List Step → Data → Option Data
at_path [] d = Some d
at_path (step ∷ path) d = option_and_then (at_path path) (step_to step d)

-- the text is a document, and whether that has something at the path
abbrev pub Shows : List Step → List ℕ → Bool → Type 0
Shows path text is_there =
    (ms : Members) × (parse_document text ≡ Some ms) × (is_there ≡ is_some (at_path path (table ms)))

-- in a bracket that this one closes, an element or a pair is at the front of the text, and then comes the rest
abbrev pub ReadsInside : ℕ → List ℕ → List ℕ → Type 0
ReadsInside bracket text rest =
    ((n : ℕ) × (d : Data) × (bracket ≡ right_bracket) × (val n text ≡ Some (d, rest)))
    ⊎ ((n : ℕ) × (e : Key × Data) × (bracket ≡ right_brace) × (keyval (val n) text ≡ Some (e, rest)))

-- the same in the bracket that the closing text begins with; a header or a pair where that text is empty
abbrev pub ReadsEntry : List ℕ → List ℕ → List ℕ → Type 0
ReadsEntry [] text rest = (e : Expression) × (expression text ≡ Some (e, rest))
ReadsEntry (bracket ∷ outer) text rest = ReadsInside bracket text rest

-- the text begins as a header of an array of tables, and so as any header
abbrev pub is_array_header : List ℕ → Bool
is_array_header text = first text == left_bracket && slice_index text 1 == left_bracket

-- where the key of a pair is, or of a header
abbrev pub at_key : List ℕ → List ℕ
at_key text =
    if is_array_header text then skip_ws (drop 2 text)
    else if first text == left_bracket then skip_ws (drop 1 text) else text

-- the name is a part of the key
abbrev pub has_part : List ℕ → Read Key → Bool
has_part name None = false
has_part name (Some (k, rest)) = list_any (λ part. bytes_eq part name) (k.0 ++ k.1 ∷ [])

-- The entry is one that the step may lead to: for a key, one whose key has it as a part; for an index, an element of an
-- array in brackets, or a header of an array. `IsFront` says that it brings what the path leads to.
abbrev pub names_step : Step → List ℕ → List ℕ → Bool
names_step (key_step k) closing text = not (first closing == right_bracket) && has_part k.now (key (at_key text))
names_step (index_step n) closing text = first closing == right_bracket || is_array_header text

-- The entry after the front brings the path: the text before it, with an ending that closes the brackets, is a document
-- without the path, and the text through it, with the same ending, is a document with it.
pub record IsFront (text : List ℕ) (path : List Step) (front : List ℕ) : Type 0 where
  pub from : List ℕ
  pub through : List ℕ
  pub following : List ℕ
  pub closing : List ℕ
  pub begins : text ≡ front ++ from
  pub ends : text ≡ through ++ following
  pub entry : ReadsEntry closing from following
  pub last : Step
  pub last_is : slice_get path (length path - 1) ≡ Some last
  pub named : names_step last closing from ≡ true
  pub before : Shows path (front ++ closing) false
  pub after : Shows path (through ++ closing) true
