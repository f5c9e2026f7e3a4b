-- Lines of a help text as pieces of a text.
use Rattle.std.specs.Prelude.{ℕ, ◌-◌, ◌==◌, Bool, true, false, not, List, [], ◌∷◌, drop, fold, if◌then◌else◌, length, map, max, min, nat_lt, take}
use Rattle.std.specs.List.{prefix_len}
use Rattle.std.specs.Str.{trim, trim_end}
use Rattle.help_blocks.specs.declared.place.Kind.{Kind}
use Rattle.help_blocks.specs.declared.place.Kind.TheVariants as kind
use Rattle.help_fronts.specs.Bytes.{is_blank}
use Rattle.toml_pieces.specs.declared.toml.Lead.{Lead}
use Rattle.toml_pieces.specs.declared.toml.Lead.TheVariants as lead
use Rattle.toml_pieces.specs.Toml.{Piece, piece}
use Rattle.drafts.specs.Passages.{PassageSaid}

abbrev pub empty_piece : Piece
empty_piece = piece lead.Line []

-- ---- code, which loses the indent that all its lines have

abbrev pub indent_len : (line : List ℕ) → ℕ
indent_len line = prefix_len is_blank line

abbrev pub narrower : (indent : ℕ) → (line : List ℕ) → ℕ
narrower indent line = if length (trim line) == 0 then indent else min indent (indent_len line)

-- at most 64
abbrev pub shared_indent : (lines : List (List ℕ)) → ℕ
shared_indent lines = fold narrower 64 lines

abbrev pub code_piece : (indent : ℕ) → (line : List ℕ) → Piece
code_piece indent line = piece lead.Code (trim_end (drop (min indent (indent_len line)) line))

-- ---- prose, which loses it

abbrev pub is_no_blank : ℕ → Bool
is_no_blank b = not (is_blank b)

-- what stands before the first blank
abbrev pub first_word : List ℕ → List ℕ
first_word text = take (prefix_len is_no_blank text) text

abbrev pub wider : (width : ℕ) → (line : List ℕ) → ℕ
wider width line = max width (length (trim line))

-- the bytes of the longest line, and 70 at least
abbrev pub width_of : (lines : List (List ℕ)) → ℕ
width_of lines = fold wider 70 lines

-- whether the first word of a line, after a blank, would have stood on the one
-- above: then the break between them is meant
abbrev pub is_broken : (width : ℕ) → (above line : List ℕ) → Bool
is_broken width above line = nat_lt (length (first_word (trim line))) (width - length (trim above))

abbrev pub prose_lead : (width : ℕ) → (above line : List ℕ) → Lead
prose_lead width above line = if is_broken width above line then lead.Broken else lead.Line

abbrev pub prose_piece : Lead → (line : List ℕ) → Piece
prose_piece l line = piece l (trim line)

abbrev pub prose_below : (width : ℕ) → (above : List ℕ) → (lines : List (List ℕ)) → List Piece
prose_below width above [] = []
prose_below width above (l ∷ ls) = prose_piece (prose_lead width above l) l ∷ prose_below width l ls

abbrev pub prose_pieces : (lines : List (List ℕ)) → List Piece
prose_pieces [] = []
prose_pieces (l ∷ ls) = prose_piece lead.Line l ∷ prose_below (width_of (l ∷ ls)) l ls

-- ---- texts

abbrev pub is_code : Kind → Bool
is_code kind.Code = true
is_code _ = false

abbrev pub passage_pieces : PassageSaid → List Piece
passage_pieces p = if is_code p.kind then map (code_piece (shared_indent p.lines)) p.lines else prose_pieces p.lines
