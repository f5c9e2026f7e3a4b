-- What the steps of the code write.
use Rattle.std.specs.Prelude.{ℕ, suc, ◌-◌, Bool, true, false, ◌||◌, ◌==◌, List, [], ◌∷◌, ◌++◌, length, map, replicate, set, codes, if◌then◌else◌}
use Rattle.page_model.specs.Content.{Line, BlockSaid, paragraph, code, bullets, FormSaid}
use Rattle.markdown_page.specs.declared.replace.Place.{Place}
use Rattle.markdown_page.specs.declared.replace.Place.TheVariants.{Autolink, Span, Code}
use Rattle.markdown_page.specs.Bytes.{grave, graves, holds_definition, is_digit}
use Rattle.markdown_page.specs.Kept.{code_byte, dash, form_bytes, shown_byte}
use Rattle.markdown_page.specs.Exact.{auto_byte, block_text, code_line, further_line, indent, leading_text, lines_text, mark_if, span_text, wants_mark, written}

-- what stands for a byte of a text that is put there
abbrev pub place_byte : Place → ℕ → List ℕ
place_byte Autolink b = auto_byte b
place_byte Span b = shown_byte b ∷ []
place_byte Code b = code_byte b ∷ []

-- what follows the text of a link
abbrev pub after_text : (address : List ℕ) → List ℕ
after_text address = codes "](" ++ (address ++ codes ")")

-- ---- runs of backquotes

-- Which lengths are seen: at each place whether the length that is one more is. With room for a run of this length.
abbrev pub widened : List Bool → ℕ → List Bool
widened seen run = seen ++ replicate (run - length seen) false

-- with a run of this length, which may be 0
abbrev pub with_run : List Bool → ℕ → List Bool
with_run seen run = if run == 0 then seen else set (widened seen run) (run - 1) true

-- with those of a text after a run of this length
abbrev pub with_runs : List Bool → ℕ → List ℕ → List Bool
with_runs seen run [] = with_run seen run
with_runs seen run (b ∷ text) =
    if b == grave then with_runs seen (suc run) text else with_runs (with_run seen run) 0 text

abbrev pub first_unseen : List Bool → ℕ
first_unseen [] = 0
first_unseen (is ∷ seen) = if is then suc (first_unseen seen) else 0

-- ---- lines

-- how many digits a line begins with
abbrev pub digits_of : List ℕ → ℕ
digits_of [] = 0
digits_of (b ∷ line) = if is_digit b then suc (digits_of line) else 0

-- what stands before the rest of a line, after a digit or not
abbrev pub front_mark : Bool → List ℕ → List ℕ
front_mark after_digit [] = []
front_mark after_digit (b ∷ line) = mark_if (wants_mark after_digit b)

-- a line after the first of a paragraph
abbrev pub written_line : ℕ → Line → List ℕ
written_line level line = further_line level (written line)

-- the lines of an entry, after its terms
abbrev pub first_text : List ℕ → List Line → List ℕ
first_text terms [] = lines_text 1 terms []
first_text terms (line ∷ lines) = lines_text 1 (terms ++ (dash ++ written line)) (map written lines)

-- its first block
abbrev pub first_block : List ℕ → BlockSaid → List ℕ
first_block terms (paragraph lines) = first_text terms lines
first_block terms (code lines) = lines_text 1 terms [] ++ block_text 1 (code lines)
first_block terms (bullets items) = lines_text 1 terms [] ++ block_text 1 (bullets items)

abbrev pub is_nothing : List ℕ → Bool
is_nothing [] = true
is_nothing (b ∷ text) = false

-- a term by the text that is shown of it
abbrev pub shown_span : (address text : List ℕ) → List ℕ
shown_span address text =
    if is_nothing text || holds_definition text then span_text text else leading_text address (span_text text)

-- how far a line of code is indented: an empty one is not
abbrev pub code_indent : ℕ → List ℕ → ℕ
code_indent level [] = 0
code_indent level (b ∷ line) = level

-- a form of a usage as a line of code
abbrev pub form_line : FormSaid → List ℕ
form_line form = code_line 0 (form_bytes form)

abbrev pub fence_of : ℕ → ℕ → List ℕ
fence_of level more = indent level ++ (graves (suc more) ++ codes "\n")
