-- The summary of a level: a paragraph on one line, without the full stop at its end.
use Rattle.std.specs.Prelude.{ℕ, List, [], ◌∷◌, ◌++◌, ◌==◌, codes, Bool, true, false, ◌&&◌, unwrap_or, if◌then◌else◌}
use Rattle.std.specs.List.{ends_with}
use Rattle.std.specs.Str.{bytes_eq}
use Rattle.page_model.specs.Content.{Piece, words, literal, value, link, page, Line, BlockSaid, paragraph, code, bullets}
use Rattle.description_pages.specs.Levels.{SubjectSaid, texts_of}
use Rattle.description_usage.specs.Lines.{joined}
use Rattle.description_pages.specs.Sections.{given_blocks, without_last}
use Rattle.description_texts.specs.Texts.{first_paragraph}
use Rattle.description_texts.specs.TextsInside.{gathered, some_words}
use Rattle.description_pages.specs.declared.sections.Detail.TheVariants.{Full}

-- a text without the full stop at its end, and the blank before that; where stops follow one another, all are left
abbrev pub without_full_stop : List ℕ → List ℕ
without_full_stop text = if ends_with ◌==◌ text (codes "..") then text else without_last 32 (without_last 46 text)

-- a line without it
abbrev pub without_stop : Line → Line
without_stop [] = []
without_stop (piece ∷ next ∷ line) = piece ∷ without_stop (next ∷ line)
without_stop (words text ∷ []) = some_words (without_full_stop text)
without_stop (literal text ∷ []) = literal text ∷ []
without_stop (value text ∷ []) = value text ∷ []
without_stop (link text ∷ []) = link text ∷ []
without_stop (page name ∷ []) = page name ∷ []

-- the lines of a paragraph, with a blank between two
abbrev pub one_line : List Line → Line
one_line lines = without_stop (gathered (joined (codes " ") lines))

-- of two texts the first paragraph, if there is one
abbrev pub summary : (help about : List BlockSaid) → Line
summary help about = one_line (unwrap_or (first_paragraph (help ++ about)) [])

-- that of the help of a command, otherwise of what is said about it; of the application, which has no help, of the
-- latter
abbrev pub summary_of : SubjectSaid → Line
summary_of subject = summary (given_blocks Full subject.help) (given_blocks Full (texts_of subject.level).about)

-- ---- whether blocks say a summary, and nothing else

abbrev pub same_piece : Piece → Piece → Bool
same_piece (words text) (words other) = bytes_eq text other
same_piece (literal text) (literal other) = bytes_eq text other
same_piece (value text) (value other) = bytes_eq text other
same_piece (link text) (link other) = bytes_eq text other
same_piece (page name) (page other) = bytes_eq name other
same_piece piece other = false

abbrev pub same_line : Line → Line → Bool
same_line [] [] = true
same_line [] (piece ∷ line) = false
same_line (piece ∷ line) [] = false
same_line (piece ∷ line) (other ∷ others) = same_piece piece other && same_line line others

abbrev pub is_summary : Line → List BlockSaid → Bool
is_summary line [] = false
is_summary line (paragraph lines ∷ []) = same_line line (one_line lines)
is_summary line (code lines ∷ []) = false
is_summary line (bullets items ∷ []) = false
is_summary line (first ∷ second ∷ blocks) = false
