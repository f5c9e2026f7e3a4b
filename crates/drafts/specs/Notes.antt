-- The notes at the end of a help: `[default: X]`, `[possible values: a, b]` and `[env: X]`, also in parentheses.
use Rattle.std.specs.Prelude.{ℕ, ◌≡◌, zero, suc, ◌-◌, ◌==◌, ◌&&◌, Bool, true, false, not, List, [], ◌∷◌, ◌++◌, bytes_eq, codes, drop, flat_map, if◌then◌else◌, length, map, nat_lt, take, Option, None, Some}
use Rattle.std.specs.List.{list_all, list_any, prefix_len, slice_index, slice_split, suffix_len}
use Rattle.std.specs.Option.{option_map, option_or}
use Rattle.std.specs.Str.{trim, trim_end}
use Rattle.description.specs.Values.{listed_values}
use Rattle.toml_pieces.specs.Toml.{Piece, list_at, optional_at, text_at}
use Rattle.toml_pieces.specs.declared.toml.Lead.TheVariants as lead
use Rattle.drafts.specs.Seen.{is_name, is_word, last}
use Rattle.drafts.specs.Texts.{prose_piece}
use Rattle.drafts.specs.declared.notes.NoteKind.{NoteKind}
use Rattle.drafts.specs.declared.notes.NoteKind.TheVariants as note
use Rattle.drafts.specs.declared.notes.Subject.{Subject}
use Rattle.drafts.specs.declared.notes.Subject.TheVariants as subject

abbrev pub IsFront : (front text : List ℕ) → Type 0
IsFront front text = front ≡ take (length front) text

-- ---- a text that ends with brackets

abbrev pub without_last : List ℕ → List ℕ
without_last text = take (length text - 1) text

-- how many bytes stand after the last such bracket; all, if there is none
abbrev pub after_last : (bracket : ℕ) → List ℕ → ℕ
after_last bracket text = suffix_len (λ b. not (b == bracket)) text

-- what stands before the last such bracket, and after it
abbrev pub split_last : (bracket : ℕ) → List ℕ → Option (List ℕ × List ℕ)
split_last bracket text =
    if nat_lt (after_last bracket text) (length text)
    then Some (take (length text - after_last bracket text - 1) text, drop (length text - after_last bracket text) text)
    else None

abbrev pub before : (closing : ℕ) → List ℕ → Option (List ℕ)
before closing text = if last text == closing then Some (without_last text) else None

abbrev pub split_open : (bracket : ℕ) → Option (List ℕ) → Option (List ℕ × List ℕ)
split_open bracket None = None
split_open bracket (Some text) = split_last bracket text

-- what stands before the brackets that a text ends with, and in them
abbrev pub bracketed : List ℕ → Option (List ℕ × List ℕ)
bracketed text = option_or (split_open 91 (before 93 text)) (split_open 40 (before 41 text))

-- ---- what stands in the brackets

pub record NoteSaid : Type 0 where
  pub kind : NoteKind
  pub text : List ℕ

abbrev pub opening : NoteKind → List ℕ
opening note.Default = codes "default: "
opening note.Values = codes "possible values: "
opening note.Env = codes "env: "

abbrev pub after : (beginning text : List ℕ) → Option (List ℕ)
after beginning text = if bytes_eq (take (length beginning) text) beginning then Some (drop (length beginning) text) else None

abbrev pub note_of : NoteKind → (text : List ℕ) → NoteSaid
note_of k text = record { kind = k; text = trim text }

abbrev pub note_of_kind : NoteKind → (inner : List ℕ) → Option NoteSaid
note_of_kind k inner = option_map (note_of k) (after (opening k) inner)

abbrev pub is_space : ℕ → Bool
is_space b = b == 32

-- between quotation marks, or one word
abbrev pub unquoted : (text : List ℕ) → Option (List ℕ)
unquoted text =
    if slice_index text 0 == 34 then before 34 (drop 1 text)
    else if list_any is_space text then None
    else Some text

abbrev pub unquoted_in : Option (List ℕ) → Option (List ℕ)
unquoted_in None = None
unquoted_in (Some text) = unquoted text

-- as in `(default "json")` and `(default 10)`
abbrev pub bare_default : (inner : List ℕ) → Option NoteSaid
bare_default inner = option_map (note_of note.Default) (unquoted_in (after (codes "default ") inner))

abbrev pub note_in : (inner : List ℕ) → Option NoteSaid
note_in inner =
    option_or (option_or (option_or (note_of_kind note.Default inner) (note_of_kind note.Values inner)) (note_of_kind note.Env inner))
    (bare_default inner)

abbrev pub note_after : (before : List ℕ) → Option NoteSaid → Option (List ℕ × NoteSaid)
note_after before n = option_map (λ found. (trim_end before, found)) n

abbrev pub note_at_end : Option (List ℕ × List ℕ) → Option (List ℕ × NoteSaid)
note_at_end None = None
note_at_end (Some (before, inner)) = note_after before (note_in inner)

-- the note that a text ends with, and what stands before it
abbrev pub last_note : List ℕ → Option (List ℕ × NoteSaid)
last_note text = note_at_end (bracketed text)

-- ---- all notes of a text

pub record NotesSaid : Type 0 where
  pub preset : Option (List ℕ)
  pub values : Option (List ℕ)
  pub env : Option (List ℕ)
  -- whether each kind occurs at most once
  pub are_single : Bool

abbrev pub no_notes : NotesSaid
no_notes = record { preset = None; values = None; env = None; are_single = true }

abbrev pub is_none : Option (List ℕ) → Bool
is_none None = true
is_none (Some text) = false

-- the name of a variable, before `=` and what it is set to
abbrev pub variable : (text : List ℕ) → List ℕ
variable text = take (prefix_len (λ b. not (b == 61)) text) text

abbrev pub with_text : NoteKind → (text : List ℕ) → NotesSaid → NotesSaid
with_text note.Default text n = record { preset = Some text; values = n.values; env = n.env; are_single = n.are_single && is_none n.preset }
with_text note.Values text n = record { preset = n.preset; values = Some text; env = n.env; are_single = n.are_single && is_none n.values }
with_text note.Env text n = record { preset = n.preset; values = n.values; env = Some (variable text); are_single = n.are_single && is_none n.env }

abbrev pub with_note : NotesSaid → NoteSaid → NotesSaid
with_note all n = with_text n.kind n.text all

-- a text without the notes at its end, and these
pub record CutSaid : Type 0 where
  pub rest : List ℕ
  pub notes : NotesSaid

abbrev pub cut_by : (more : List ℕ → NotesSaid → CutSaid) → (text : List ℕ) → NotesSaid → Option (List ℕ × NoteSaid) → CutSaid
cut_by more text all None = record { rest = text; notes = all }
cut_by more text all (Some (before, n)) = more before (with_note all n)

-- at most so many
abbrev pub cut_from : (most : ℕ) → (text : List ℕ) → NotesSaid → CutSaid
cut_from zero text all = record { rest = text; notes = all }
cut_from (suc n) text all = cut_by (cut_from n) text all (last_note text)

abbrev pub cut : (text : List ℕ) → CutSaid
cut text = cut_from (length text) text no_notes

-- ---- which notes an entry may have

abbrev pub takes_value : Subject → Bool
takes_value subject.Option = true
takes_value subject.Positional = true
takes_value _ = false

abbrev pub takes_variable : Subject → Bool
takes_variable subject.Flag = true
takes_variable subject.Option = true
takes_variable _ = false

abbrev pub listed : (text : List ℕ) → List (List ℕ)
listed text = map trim (listed_values text)

abbrev pub are_words : (text : List ℕ) → Bool
are_words text = list_all is_word (listed text)

abbrev pub may_have : (takes : Bool) → (is_good : List ℕ → Bool) → Option (List ℕ) → Bool
may_have takes is_good None = true
may_have takes is_good (Some text) = takes && is_good text

abbrev pub fit : Subject → NotesSaid → Bool
fit s n =
    (n.are_single && may_have (takes_value s) is_word n.preset)
    && (may_have (takes_value s) are_words n.values && may_have (takes_variable s) is_name n.env)

-- ---- a help: its lines without their indent, and its notes, if the entry may have them all

abbrev pub joined_line : (between line : List ℕ) → List ℕ
joined_line between line = between ++ trim line

abbrev pub joined : (between : List ℕ) → (lines : List (List ℕ)) → List ℕ
joined between [] = []
joined between (l ∷ ls) = trim l ++ flat_map (joined_line between) ls

pub record HelpSaid : Type 0 where
  pub text : List ℕ
  pub notes : NotesSaid

abbrev pub helped : (text : List ℕ) → NotesSaid → HelpSaid
helped text n = record { text = text; notes = n }

abbrev pub help_by : Subject → (text : List ℕ) → CutSaid → HelpSaid
help_by s text c =
    if fit s c.notes then helped (take (length c.rest) text) c.notes else helped text no_notes

-- a note may be broken by the end of a line
abbrev pub help_said : Subject → (lines : List (List ℕ)) → HelpSaid
help_said s lines = help_by s (joined (codes "\n") lines) (cut (joined (codes " ") lines))

-- ---- how it is written

abbrev pub pieces_in : (text : List ℕ) → List Piece
pieces_in text = if length text == 0 then [] else map (prose_piece lead.Line) (slice_split (λ b. b == 10) text)

abbrev pub values_at : Option (List ℕ) → List ℕ
values_at None = []
values_at (Some text) = list_at (codes "values") (listed text)

abbrev pub notes_at : NotesSaid → List ℕ
notes_at n = optional_at (codes "default") n.preset ++ (values_at n.values ++ optional_at (codes "env") n.env)

abbrev pub help_text : HelpSaid → List ℕ
help_text h = text_at (codes "help") (pieces_in h.text) ++ notes_at h.notes
