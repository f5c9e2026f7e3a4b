-- The pieces that each call of a roff adds, and what a roff is rendered to.
use Rattle.std.specs.Borrow.{Bor}
use Rattle.std.specs.Prelude.{ℕ, Bool, false, List, [], ◌∷◌, ◌++◌, Option, Some, None, flat_map, fold, codes, if◌then◌else◌}
use Rattle.bpaf_roff.specs.Pieces.{Piece}
use Rattle.bpaf_roff.specs.Escaping.{escaped, signs_of, text_after}
use Rattle.bpaf_roff.specs.declared.escape.Apostrophes.{Apostrophes}
use Rattle.bpaf_roff.specs.declared.escape.Apostrophes.TheVariants.{Handle, DontHandle}
use Rattle.bpaf_roff.specs.declared.escape.Escape.{Escape}
use Rattle.bpaf_roff.specs.declared.escape.Escape.TheVariants.{UnescapedAtNewline, Spaces, Special, SpecialNoNewline, Unescaped}
use Rattle.bpaf_roff.specs.declared.roff.Font.{Font}
use Rattle.bpaf_roff.specs.declared.roff.Font.TheVariants.{Roman, Bold, Italic}

-- what a roff holds: its pieces in order, and whether plain text gets blanks for its newlines
pub record Script : Type 0 where
  pub pieces : List (Piece Escape)
  pub strip_newlines : Bool

-- nothing, and newlines are kept
abbrev pub no_script : Script
no_script = record { pieces = []; strip_newlines = false }

-- with pieces appended
abbrev pub with_pieces : Script → List (Piece Escape) → Script
with_pieces script more = record script { pieces = script.pieces ++ more }

-- the right pieces after the left ones, under the right setting
abbrev pub script_sum : Script → Script → Script
script_sum left right = record right { pieces = left.pieces ++ right.pieces }

-- several of them after the left one, in order
abbrev pub scripts_sum : Script → List Script → Script
scripts_sum left [] = left
scripts_sum left (right ∷ others) = scripts_sum (script_sum left right) others

-- what a reference refers to
abbrev pub script_at : Bor Script → Script
script_at roff = roff.now

abbrev pub text_at : Bor (List ℕ) → List ℕ
text_at text = text.now

-- a text under a label
abbrev pub piece : Escape → List ℕ → Piece Escape
piece label text = record { label = label; text = text }

-- what changes to a font
abbrev pub font_escape : Font → List ℕ
font_escape Roman = codes "\\fR"
font_escape Bold = codes "\\fB"
font_escape Italic = codes "\\fI"

-- what ends a font
abbrev pub restore_font : List ℕ
restore_font = codes "\\fP"

-- the word of an argument, where an empty one is two quotes
abbrev pub argument_word : List ℕ → List ℕ
argument_word [] = codes "\"\""
argument_word (b ∷ bytes) = b ∷ bytes

-- the pieces of a line break
abbrev pub linebreak_pieces : List (Piece Escape)
linebreak_pieces = piece UnescapedAtNewline [] ∷ []

-- an argument after its blank
abbrev pub argument_pieces : List ℕ → List (Piece Escape)
argument_pieces argument = piece Unescaped (codes " ") ∷ piece Spaces (argument_word argument) ∷ []

-- a control begins and ends a line
-- e.g. escaped Handle (control_pieces (codes "TH") (codes "a b" ∷ [] ∷ [])) ≡ codes ".TH a\\ b \"\"\n"
abbrev pub control_pieces : List ℕ → List (List ℕ) → List (Piece Escape)
control_pieces name arguments =
    piece UnescapedAtNewline (codes ".") ∷ piece Unescaped name
    ∷ (flat_map argument_pieces arguments ++ linebreak_pieces)

-- a text as it is
abbrev pub escape_pieces : List ℕ → List (Piece Escape)
escape_pieces text = piece Unescaped text ∷ []

-- a text whose signs are escaped, with blanks for newlines if they are to be stripped
-- e.g. escaped DontHandle (plaintext_pieces true (codes "a\nb")) ≡ codes "a b"
abbrev pub plaintext_pieces : Bool → List ℕ → List (Piece Escape)
plaintext_pieces strip_newlines text = piece (if strip_newlines then SpecialNoNewline else Special) text ∷ []

-- the escape of a font, unless the item before has that font too
abbrev pub font_change : Option Font → Font → List (Piece Escape)
font_change (Some Roman) Roman = []
font_change (Some Bold) Bold = []
font_change (Some Italic) Italic = []
font_change _ font = escape_pieces (font_escape font)

-- items of text, where the item before has this font, if there is one; after the last item the font is restored
abbrev pub items_pieces : Bool → Option Font → List (Font × List ℕ) → List (Piece Escape)
items_pieces strip_newlines None [] = []
items_pieces strip_newlines (Some before) [] = escape_pieces restore_font
items_pieces strip_newlines before (item ∷ items) =
    font_change before item.0 ++ plaintext_pieces strip_newlines item.1
    ++ items_pieces strip_newlines (Some item.0) items

-- items of text, each in its font
-- e.g. escaped Handle (text_pieces false ((Bold, codes "a") ∷ (Bold, codes "b") ∷ (Roman, codes "c") ∷ []))
--     ≡ codes "\\fBab\\fRc\\fP"
abbrev pub text_pieces : Bool → List (Font × List ℕ) → List (Piece Escape)
text_pieces strip_newlines items = items_pieces strip_newlines None items

-- two lines that define how an apostrophe is written
abbrev pub preamble : List ℕ
preamble = codes ".ie \\n(.g .ds Aq \\(aq\n.el .ds Aq '\n"

-- what comes before everything
abbrev pub preamble_for : Apostrophes → List ℕ
preamble_for Handle = preamble
preamble_for DontHandle = []

-- what pieces are rendered to
abbrev pub rendering : Apostrophes → List (Piece Escape) → List ℕ
rendering apostrophes pieces = preamble_for apostrophes ++ escaped apostrophes pieces

-- the text of a roff that is still being written, and how its apostrophes are written
pub record RoffText : Type 0 where
  pub bytes : List ℕ
  pub apostrophes : Apostrophes

-- the text of pieces
abbrev pub text_of : Apostrophes → List (Piece Escape) → RoffText
text_of apostrophes pieces = record { bytes = rendering apostrophes pieces; apostrophes = apostrophes }

-- with a piece appended
unfoldable pub with_piece : RoffText → Piece Escape → RoffText
with_piece text piece = record text { bytes = text.bytes ++ text_after text.apostrophes text.bytes (signs_of piece) }

-- with several appended, in order
abbrev pub with_written : RoffText → List (Piece Escape) → RoffText
with_written = fold with_piece
