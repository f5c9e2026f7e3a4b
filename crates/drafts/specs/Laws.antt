-- Laws of drafts.
use Rattle.std.specs.Prelude.{ℕ, ◌≡◌, ◌==◌, Bool, true, false, not, List, [], ◌∷◌, ◌++◌, filter, flat_map, if◌then◌else◌, map}
use Rattle.std.specs.Prelude.{◌⊎◌, All, IfSome, IsUtf8, None, Some, chars, codes, drop, length, option_to_list, reverse}
use Rattle.std.specs.Char.{is_not_whitespace}
use Rattle.std.specs.List.{list_any}
use Rattle.help_fronts.specs.Fronts.{FrontSaid}
use Rattle.help_fronts.specs.Laws.{IsFrontOf, IsTextOf}
use Rattle.toml_pieces.specs.Toml.{Piece}
use Rattle.drafts.specs.Passages.{PassageSaid, is_blank}
use Rattle.drafts.specs.Options.{are_plain, long_word, short_letter}
use Rattle.drafts.specs.Free.{Has, free_in, free_keys}
use Rattle.drafts.specs.Entries.{ValueSaid, value_front, value_name}
use Rattle.drafts.specs.Texts.{first_word}
use Rattle.drafts.specs.Notes.{CutSaid, HelpSaid, IsFront, NoteSaid, NotesSaid, cut, help_said, joined}
use Rattle.drafts.specs.Notes.{last_note, listed, no_notes, note_in, pieces_in, with_note}
use Rattle.drafts.specs.Places.{PlacedSaid, is_title, placed}
use Rattle.drafts.specs.Usages.{FormSaid, first_form, further_form, last_part}
use Rattle.drafts.specs.declared.notes.Subject.{Subject}
use Rattle.drafts.specs.declared.places.Role.{Role}
use Rattle.drafts.specs.declared.places.Role.TheVariants as role

abbrev pub is_inked : (line : List ℕ) → Bool
is_inked line = not (is_blank line)

-- the role of the nearest title
abbrev pub title_after : (title : Role) → PlacedSaid → Role
title_after title p = if is_title p.passage.kind then p.role else title

abbrev pub StandBelow : (title : Role) → List PlacedSaid → Type 0
StandBelow title [] = Unit {0}
StandBelow title (p ∷ ps) =
    (p.role ≡ role.InTopic → title ≡ role.Topic) × (p.role ≡ role.Member → title ≡ role.Group)
    × StandBelow (title_after title p) ps

-- the nearest title above a text of a topic is that of the topic, and above a member of a group that of the group
abbrev pub EachIsBelowItsTitle : Type 0
EachIsBelowItsTitle = (ps : List PassageSaid) → StandBelow role.Nothing (placed ps)

-- no option of a line has a name that is taken
abbrev pub NamesAreFree : Type 0
NamesAreFree = (has : Has) (line : List ℕ) → list_any has (flat_map free_keys (free_in has line)) ≡ false

-- what is read of an option stands in its line, also the letter and the word by which it is called
pub record IsOptionOf (line : List ℕ) (f : FrontSaid) : Type 0 where
  pub front : IsFrontOf line f
  pub letter : IfSome (short_letter f.names) (IsTextOf line)
  pub word : IfSome (long_word f.names) (IsTextOf line)

-- of each option of a line, with its free names
abbrev pub OptionsStandInTheirLine : Type 0
OptionsStandInTheirLine = (has : Has) (line : List ℕ) → All (λ f. IsOptionOf line f.front) (free_in has line)

-- what `short` and `long` say, with the dashes
abbrev pub called : (names : List (List ℕ)) → List (List ℕ)
called names =
    map (λ letter. 45 ∷ letter) (option_to_list (short_letter names))
    ++ map (λ word. 45 ∷ 45 ∷ word) (option_to_list (long_word names))

-- an option that is written without a syntax loses none of its names
abbrev pub NoNameIsLost : Type 0
NoNameIsLost = (names : List (List ℕ)) → are_plain names ≡ true
    → (names ≡ called names) ⊎ (names ≡ reverse (called names))

-- what is read of a positional value stands in its line
pub record IsValueOf (line : List ℕ) (v : ValueSaid) : Type 0 where
  pub front : IsTextOf line v.front
  pub help : IsTextOf line v.help
  pub name : IsTextOf line (value_name v.front)

-- as lines are UTF-8
abbrev pub ValuesStandInTheirLine : Type 0
ValuesStandInTheirLine = (line : List ℕ) → IsUtf8 line → IsValueOf line (value_front line)

-- what is read of a line of a usage stands in it, also the name of the program
pub record IsFormOf (line : List ℕ) (f : FormSaid) : Type 0 where
  pub text : IsTextOf line f.text
  pub name : IsTextOf line (last_part (first_word f.text))

-- the first line, and each other
abbrev pub FormsStandInTheirLine : Type 0
FormsStandInTheirLine = (line : List ℕ) → IsUtf8 line → IsFormOf line (first_form line) × IsFormOf line (further_form line)

-- the characters of a text that are not white space
abbrev pub letters : (text : List ℕ) → List ℕ
letters text = filter is_not_whitespace (chars text)

abbrev pub piece_letters : Piece → List ℕ
piece_letters p = letters p.text

-- the pieces of a help, where no note is taken, have all letters of its lines, in order
abbrev pub HelpsAreWhole : Type 0
HelpsAreWhole = (lines : List (List ℕ)) → All IsUtf8 lines
    → flat_map piece_letters (pieces_in (joined (codes "\n") lines)) ≡ flat_map letters lines

-- in square brackets or in round ones, of which no other opens inside
abbrev pub IsInBrackets : (text inner : List ℕ) → Type 0
IsInBrackets text inner =
    ((text ≡ codes "[" ++ (inner ++ codes "]")) × (list_any (λ b. b == 91) inner ≡ false))
    ⊎ ((text ≡ codes "(" ++ (inner ++ codes ")")) × (list_any (λ b. b == 40) inner ≡ false))

-- a note in brackets, with white space before it
pub record IsNoteText (text : List ℕ) (n : NoteSaid) : Type 0 where
  pub white : List ℕ
  pub brackets : List ℕ
  pub inner : List ℕ
  pub whole : text ≡ white ++ brackets
  pub is_white : letters white ≡ []
  pub in_brackets : IsInBrackets brackets inner
  pub note : note_in inner ≡ Some n

-- such texts one after another, and nothing else
abbrev pub NotesFollowIn : (text : List ℕ) → List NoteSaid → Type 0
NotesFollowIn text [] = text ≡ []
NotesFollowIn text (n ∷ ns) =
    (first : List ℕ) × (rest : List ℕ) × (text ≡ first ++ rest) × IsNoteText first n × NotesFollowIn rest ns

-- all that notes say, where the last is cut first
abbrev pub all_said : List NoteSaid → NotesSaid
all_said [] = no_notes
all_said (n ∷ ns) = with_note (all_said ns) n

-- a text is of notes alone, and what they say stands in it
pub record AreNotesOf (text : List ℕ) (all : NotesSaid) : Type 0 where
  pub notes : List NoteSaid
  pub follow : NotesFollowIn text notes
  pub said : all ≡ all_said notes
  pub preset : IfSome all.preset (IsTextOf text)
  pub values : IfSome all.values (IsTextOf text)
  pub env : IfSome all.env (IsTextOf text)

-- what is left of a text begins it and ends with no note, and what is cut is notes
pub record IsCutOf (text : List ℕ) (c : CutSaid) : Type 0 where
  pub rest : IsFront c.rest text
  pub no_more : last_note c.rest ≡ None
  pub notes : AreNotesOf (drop (length c.rest) text) c.notes

-- of a text that is UTF-8
abbrev pub NotesStandAtTheEnd : Type 0
NotesStandAtTheEnd = (text : List ℕ) → IsUtf8 text → IsCutOf text (cut text)

abbrev pub is_no_comma : ℕ → Bool
is_no_comma c = not (c == 44)

abbrev pub value_letters : (text : List ℕ) → List ℕ
value_letters text = filter is_no_comma (letters text)

-- values stand in a text, and have all its letters but commas, in order
pub record AreValuesOf (text : List ℕ) (values : List (List ℕ)) : Type 0 where
  pub stand : All (IsTextOf text) values
  pub whole : flat_map value_letters values ≡ value_letters text

-- the values that a note lists
abbrev pub ValuesStandInTheirNote : Type 0
ValuesStandInTheirNote = (text : List ℕ) → IsUtf8 text → AreValuesOf text (listed text)

-- the text of a help begins its lines and is written with all its letters, and what is left out is notes
pub record IsHelpOf (lines : List (List ℕ)) (h : HelpSaid) : Type 0 where
  pub text : IsFront h.text (joined (codes "\n") lines)
  pub written : flat_map piece_letters (pieces_in h.text) ≡ letters h.text
  pub notes : AreNotesOf (drop (length h.text) (joined (codes " ") lines)) h.notes

abbrev pub HelpsStandInTheirLines : Type 0
HelpsStandInTheirLines = (s : Subject) (lines : List (List ℕ)) → All IsUtf8 lines → IsHelpOf lines (help_said s lines)
