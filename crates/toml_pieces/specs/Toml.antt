-- How drafts are written in TOML.
use Rattle.std.specs.Prelude.{ℕ, ◌==◌, ◌&&◌, Bool, true, false, not, List, [], ◌∷◌, ◌++◌, codes, flat_map, if◌then◌else◌, Option, None, Some}
use Rattle.std.specs.List.{list_all, slice_index_or}
use Rattle.toml_pieces.specs.declared.toml.Quoting.{Quoting}
use Rattle.toml_pieces.specs.declared.toml.Quoting.TheVariants as quoting
use Rattle.toml_pieces.specs.declared.toml.Lead.{Lead}
use Rattle.toml_pieces.specs.declared.toml.Lead.TheVariants as lead

-- ---- quoted texts

-- `"`, and where it is escaped `\"`
abbrev pub quote_mark : Quoting → List ℕ
quote_mark quoting.Escaped = 92 ∷ 34 ∷ []
quote_mark quoting.Plain = 34 ∷ []

abbrev pub replaced : Quoting → ℕ → List ℕ
replaced q b = if b == 92 then 92 ∷ 92 ∷ [] else if b == 34 then quote_mark q else b ∷ []

abbrev pub quoted : Quoting → List ℕ → List ℕ
quoted q text = flat_map (replaced q) text

abbrev pub escaped : List ℕ → List ℕ
escaped text = quoted quoting.Escaped text

-- no `"` stands at the end, or before another
abbrev pub is_tame : List ℕ → Bool
is_tame [] = true
is_tame (b ∷ bs) = not (b == 34 && slice_index_or bs 0 34 == 34) && is_tame bs

-- how a piece of a text of several lines is quoted
abbrev pub quoting_of : List ℕ → Quoting
quoting_of text = if is_tame text then quoting.Plain else quoting.Escaped

-- ---- keys

abbrev pub word_at : (key text : List ℕ) → List ℕ
word_at key text = key ++ (codes " = \"" ++ (escaped text ++ codes "\"\n"))

abbrev pub optional_at : (key : List ℕ) → Option (List ℕ) → List ℕ
optional_at key None = []
optional_at key (Some text) = word_at key text

-- a piece of a text, and how it follows the one above
pub record Piece : Type 0 where
  pub lead : Lead
  pub text : List ℕ

abbrev pub piece : Lead → List ℕ → Piece
piece l text = record { lead = l; text = text }

abbrev pub lead_text : Lead → List ℕ
lead_text lead.Line = codes "\n"
lead_text lead.Joined = codes " "
lead_text lead.Code = codes "\n    "
lead_text lead.Broken = codes "\n "

abbrev pub is_line : Lead → Bool
is_line lead.Line = true
is_line _ = false

abbrev pub is_joined : Lead → Bool
is_joined lead.Joined = true
is_joined _ = false

-- a text on one line
abbrev pub is_one : List Piece → Bool
is_one [] = true
is_one (p ∷ ps) = is_line p.lead && list_all (λ q. is_joined q.lead) ps

abbrev pub joined_piece : Piece → List ℕ
joined_piece p = codes " " ++ escaped p.text

abbrev pub one_text : List Piece → List ℕ
one_text [] = []
one_text (p ∷ ps) = escaped p.text ++ flat_map joined_piece ps

abbrev pub line_piece : Piece → List ℕ
line_piece p = lead_text p.lead ++ quoted (quoting_of p.text) p.text

-- a text of several lines begins after the first newline
abbrev pub many_text : List Piece → List ℕ
many_text ps = flat_map line_piece ps

abbrev pub one_at : (key : List ℕ) → List Piece → List ℕ
one_at key ps = key ++ (codes " = \"" ++ (one_text ps ++ codes "\"\n"))

abbrev pub many_at : (key : List ℕ) → List Piece → List ℕ
many_at key ps = key ++ (codes " = \"\"\"" ++ (many_text ps ++ codes "\"\"\"\n"))

-- a text, unless it is empty
abbrev pub text_at : (key : List ℕ) → List Piece → List ℕ
text_at key [] = []
text_at key (p ∷ ps) = if is_one (p ∷ ps) then one_at key (p ∷ ps) else many_at key (p ∷ ps)

-- ---- lists

abbrev pub further_item : List ℕ → List ℕ
further_item text = codes "\", \"" ++ escaped text

abbrev pub items_text : (first : List ℕ) → (others : List (List ℕ)) → List ℕ
items_text first others = escaped first ++ flat_map further_item others

abbrev pub filled_list : (key first : List ℕ) → (others : List (List ℕ)) → List ℕ
filled_list key first others = key ++ (codes " = [\"" ++ (items_text first others ++ codes "\"]\n"))

-- an array of texts, unless it is empty
abbrev pub list_at : (key : List ℕ) → (texts : List (List ℕ)) → List ℕ
list_at key [] = []
list_at key (t ∷ ts) = filled_list key t ts

-- ---- tables and comments

abbrev pub table : (name : List ℕ) → List ℕ
table name = codes "\n[[" ++ (name ++ codes "]]\n")

abbrev pub left_out : List ℕ → List ℕ
left_out line = codes "# left out: " ++ (line ++ codes "\n")
