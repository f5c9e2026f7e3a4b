-- Where in a JSON text a path comes to be.
use Rattle.std.specs.Prelude.{◌≡◌, ℕ, List, [], ◌∷◌, ◌++◌, Bool, true, false, ◌||◌, ◌==◌, ◌-◌, length, slice_get, Option, Some, is_some, option_and_then}
use Rattle.std.specs.List.{list_all}
use Rattle.json.specs.Ascii as ascii
use Rattle.json.specs.Find.{get, at}
use Rattle.json.specs.Json.{Json, array, object, no_items, item, no_members, member, document}
use Rattle.json.specs.Word.{head, is_space}
use Rattle.keyed.specs.declared.step.Step.{Step}
use Rattle.keyed.specs.declared.step.Step.TheVariants.{Key as key_step, Index as index_step}

-- what a step leads to, and a path
abbrev pub step_to : Step → Json → Option Json
step_to (key_step k) j = get k.now j
step_to (index_step n) j = at n j

abbrev pub at_path : List Step → Json → Option Json
at_path [] j = Some j
at_path (step ∷ path) j = option_and_then (at_path path) (step_to step j)

-- the text is a document, and whether that has something at the path
abbrev pub Shows : List Step → List ℕ → Bool → Type 0
Shows path text is_there = (j : Json) × (document text ≡ Some j) × (is_there ≡ is_some (at_path path j))

-- the entry that a step leads to: in braces a member with this key, and no other;
-- or in brackets an element, and no other
abbrev pub IsEntry : Step → List ℕ → Type 0
IsEntry (key_step k) entry =
    (j : Json) × (document (ascii.open_brace ∷ (entry ++ ascii.close_brace ∷ [])) ≡ Some (object (member k.now j no_members)))
IsEntry (index_step n) entry =
    (j : Json) × (document (ascii.open_bracket ∷ (entry ++ ascii.close_bracket ∷ [])) ≡ Some (array (item j no_items)))

-- what may stand between two entries
abbrev pub is_gap : ℕ → Bool
is_gap byte = is_space byte || byte == ascii.comma

abbrev pub is_closing : ℕ → Bool
is_closing byte = byte == ascii.close_brace || byte == ascii.close_bracket

-- The entry after the front brings the path: the text before it, without the comma there and with the open brackets
-- closed, is a document without the path, and the text through it, closed in the same way, is one with it.
pub record IsFront (text : List ℕ) (path : List Step) (front : List ℕ) : Type 0 where
  pub entry : List ℕ
  pub following : List ℕ
  pub whole : text ≡ front ++ (entry ++ following)
  pub last : Step
  pub last_is : slice_get path (length path - 1) ≡ Some last
  pub named : IsEntry last entry
  pub begins : is_space (head entry) ≡ false
  pub kept : List ℕ
  pub gap : List ℕ
  pub parted : front ≡ kept ++ gap
  pub only_gap : list_all is_gap gap ≡ true
  pub closing : List ℕ
  pub only_closing : list_all is_closing closing ≡ true
  pub before : Shows path (kept ++ closing) false
  pub after : Shows path (front ++ (entry ++ closing)) true
