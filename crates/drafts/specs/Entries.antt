-- Entries: an option, a command or a positional value with its help, as a table.
use Rattle.std.specs.Prelude.{ℕ, ◌+◌, ◌==◌, ◌||◌, ◌&&◌, Bool, true, false, not, List, [], ◌∷◌, ◌++◌, codes, drop, flat_map, if◌then◌else◌, length, take, Option, None, Some}
use Rattle.std.specs.List.{list_all, list_any, slice_index}
use Rattle.std.specs.Str.{trim}
use Rattle.page_model.specs.Permitted.{are_permitted}
use Rattle.help_blocks.specs.declared.place.Kind.{Kind}
use Rattle.help_blocks.specs.declared.place.Kind.TheVariants as kind
use Rattle.help_fronts.specs.Bytes.{is_blank}
use Rattle.help_fronts.specs.Fronts.{CommandSaid, FrontSaid, command_front}
use Rattle.help_fronts.specs.Words.{value_word}
use Rattle.toml_pieces.specs.Toml.{left_out, list_at, table, word_at}
use Rattle.drafts.specs.Seen.{is_name, is_word}
use Rattle.drafts.specs.Passages.{PassageSaid, first_line}
use Rattle.drafts.specs.Options.{is_good, spelling}
use Rattle.drafts.specs.Free.{FreeSaid, Has, free_in, free_keys, has_name, none_taken, with_key, with_keys}
use Rattle.drafts.specs.Notes.{help_said, help_text}
use Rattle.drafts.specs.declared.notes.Subject.{Subject}
use Rattle.drafts.specs.declared.notes.Subject.TheVariants as subject

-- ---- the front of a positional value: what stands before a tabulator or two blanks

abbrev pub ends_front : (b next : ℕ) → Bool
ends_front b next = b == 9 || (b == 32 && is_blank next)

abbrev pub front_len : List ℕ → ℕ
front_len [] = 0
front_len (b ∷ bs) = if ends_front b (slice_index bs 0) then 0 else 1 + front_len bs

-- two dots in a row
abbrev pub has_dots : List ℕ → Bool
has_dots [] = false
has_dots (b ∷ bs) = (b == 46 && slice_index bs 0 == 46) || has_dots bs

pub record ValueSaid : Type 0 where
  pub front : List ℕ
  pub help : List ℕ

abbrev pub value_in : (text : List ℕ) → ValueSaid
value_in text = record { front = take (front_len text) text; help = drop (front_len text) text }

abbrev pub value_front : (line : List ℕ) → ValueSaid
value_front line = value_in (trim line)

abbrev pub value_name : (front : List ℕ) → List ℕ
value_name front = trim (value_word front)

-- ---- tables

abbrev pub table_name : (in_group : Bool) → (name : List ℕ) → List ℕ
table_name false name = name
table_name true name = codes "group." ++ name

-- what stands in the first line, if there is something, and the lines below
abbrev pub help_lines : (first : List ℕ) → (below : List (List ℕ)) → List (List ℕ)
help_lines first below = (if length first == 0 then [] else first ∷ []) ++ below

abbrev pub help_at : Subject → (first : List ℕ) → (below : List (List ℕ)) → List ℕ
help_at s first below = help_text (help_said s (help_lines first below))

abbrev pub option_head : (in_group : Bool) → FrontSaid → List ℕ
option_head in_group f = table (table_name in_group (codes "option")) ++ spelling f

-- the front as it stands, if it says more
abbrev pub left_out_if : (says_else : Bool) → (written : List ℕ) → List ℕ
left_out_if false written = []
left_out_if true written = left_out written

abbrev pub subject_of : FrontSaid → Subject
subject_of f = if length f.values == 0 then subject.Flag else subject.Option

-- the last option of a line has the help
abbrev pub help_if : (is_last : Bool) → (below : List (List ℕ)) → FrontSaid → List ℕ
help_if false below f = []
help_if true below f = help_at (subject_of f) f.help below

unfoldable pub option_table : (in_group : Bool) → (below : List (List ℕ)) → (is_last : Bool) → FreeSaid → List ℕ
option_table in_group below is_last f =
    table (table_name in_group (codes "option")) ++ (left_out_if (not f.is_whole) f.front.written
    ++ (spelling f.front ++ help_if is_last below f.front))

abbrev pub has_none : List FreeSaid → Bool
has_none [] = true
has_none (f ∷ fs) = false

abbrev pub option_tables : (in_group : Bool) → (below : List (List ℕ)) → List FreeSaid → List ℕ
option_tables in_group below [] = []
option_tables in_group below (f ∷ fs) = option_table in_group below (has_none fs) f ++ option_tables in_group below fs

abbrev pub command_table : (in_group : Bool) → (below : List (List ℕ)) → Option CommandSaid → List ℕ
command_table in_group below None = []
command_table in_group below (Some c) =
    table (table_name in_group (codes "command")) ++ (left_out_if c.says_else c.written
    ++ (word_at (codes "name") c.name ++ (list_at (codes "aliases") c.aliases ++ help_at subject.Command c.help below)))

abbrev pub repeated_at : Bool → List ℕ
repeated_at false = []
repeated_at true = codes "repeated = true\n"

-- a value may be left out, since nothing says that it may not
abbrev pub value_flags : (front : List ℕ) → List ℕ
value_flags front = codes "required = false\n" ++ repeated_at (has_dots front)

abbrev pub value_table : (in_group : Bool) → (below : List (List ℕ)) → ValueSaid → List ℕ
value_table in_group below v =
    table (table_name in_group (codes "positional")) ++ (word_at (codes "value") (value_name v.front)
    ++ (help_at subject.Positional v.help below ++ value_flags v.front))

-- `has` says which names are taken
abbrev pub table_of : Has → (in_group : Bool) → Kind → (lines : List (List ℕ)) → List ℕ
table_of has in_group kind.Option lines = option_tables in_group (drop 1 lines) (free_in has (first_line lines))
table_of has in_group kind.Command lines = command_table in_group (drop 1 lines) (command_front (first_line lines))
table_of has in_group kind.Value lines = value_table in_group (drop 1 lines) (value_front (first_line lines))
table_of has in_group _ lines = []

abbrev pub entry_table : Has → (in_group : Bool) → PassageSaid → List ℕ
entry_table has in_group p = table_of has in_group p.kind p.lines

-- what is taken after the table of an entry
abbrev pub taken_in : Has → Kind → (line : List ℕ) → Has
taken_in has kind.Option line = with_keys has (flat_map free_keys (free_in has line))
taken_in has _ line = has

abbrev pub after_entry : Has → PassageSaid → Has
after_entry has p = taken_in has p.kind (first_line p.lines)

-- ---- the names of an entry that no other of the level may have, if a description takes the entry

-- a description takes the option, and it has a free name
abbrev pub is_writable : FreeSaid → Bool
is_writable f = is_good f.front && has_name f

abbrev pub option_keys : List FreeSaid → Option (List (List ℕ))
option_keys fs = if not (has_none fs) && list_all is_writable fs then Some (flat_map free_keys fs) else None

-- no name stands twice
abbrev pub are_distinct : Has → (keys : List (List ℕ)) → Bool
are_distinct has [] = true
are_distinct has (k ∷ ks) = not (has k) && are_distinct (with_key has k) ks

abbrev pub are_free : Has → (names : List (List ℕ)) → Bool
are_free has names = (list_all is_name names && not (list_any has names)) && are_distinct none_taken names

abbrev pub free_names_of : Has → (names : List (List ℕ)) → Option (List (List ℕ))
free_names_of has names = if are_free has names then Some names else None

abbrev pub command_keys : Has → Option CommandSaid → Option (List (List ℕ))
command_keys has None = None
command_keys has (Some c) = free_names_of has (c.name ∷ c.aliases)

abbrev pub value_keys : ValueSaid → Option (List (List ℕ))
value_keys v = if is_word (value_name v.front) then Some [] else None

abbrev pub keys_of : Has → Kind → (line : List ℕ) → Option (List (List ℕ))
keys_of has kind.Option line = option_keys (free_in has line)
keys_of has kind.Command line = command_keys has (command_front line)
keys_of has kind.Value line = value_keys (value_front line)
keys_of has _ line = None

abbrev pub entry_keys : Has → PassageSaid → Option (List (List ℕ))
entry_keys has p = if list_all are_permitted p.lines then keys_of has p.kind (first_line p.lines) else None
