-- What identifies an entry in a list.
use Rattle.std.specs.Prelude.{ℕ, List, map, ◌==◌, bytes_eq, Bool, true, false, ◌&&◌, Option, Some, None}
use Rattle.std.specs.Option.{option_map}
use Rattle.page_model.specs.Content.{EntrySaid}
use Rattle.description.specs.Content.{NameSaid, short, long, both, SpellingSaid, named, syntax, OptSaid, PositionalSaid, CommandSaid, command}
use Rattle.description.specs.View.{name_said}
use Rattle.description_pages.specs.Once.{each_once}
use Rattle.description_pages.specs.declared.keys.EntryKey.{EntryKey}
use Rattle.description_pages.specs.declared.keys.EntryKey.TheVariants as key

pub data KeySaid : Type 0 where
  by_names : NameSaid → (value : Option (List ℕ)) → KeySaid
  by_syntax : List ℕ → KeySaid
  by_word : List ℕ → KeySaid
  by_command : List ℕ → KeySaid

abbrev pub key_said : EntryKey → KeySaid
key_said (key.Names name value) = by_names (name_said name) (option_map (λ word. word.now) value)
key_said (key.Syntax text) = by_syntax text.now
key_said (key.Word word) = by_word word.now
key_said (key.Command name) = by_command name.now

-- ---- of the members of a level

abbrev pub spelled_key : SpellingSaid → (value : Option (List ℕ)) → KeySaid
spelled_key (named name) value = by_names name value
spelled_key (syntax text) value = by_syntax text

abbrev pub option_key : OptSaid → KeySaid
option_key o = spelled_key o.spelling o.value

abbrev pub positional_key : PositionalSaid → KeySaid
positional_key p = by_word p.value

abbrev pub command_key : CommandSaid → KeySaid
command_key (command names help below) = by_command names.name

-- ---- when two are the same

abbrev pub same_name : NameSaid → NameSaid → Bool
same_name (short c) (short d) = c == d
same_name (long name) (long other) = bytes_eq name other
same_name (both c name) (both d other) = c == d && bytes_eq name other
same_name _ _ = false

abbrev pub same_value : Option (List ℕ) → Option (List ℕ) → Bool
same_value None None = true
same_value (Some word) (Some other) = bytes_eq word other
same_value _ _ = false

abbrev pub same_key : KeySaid → KeySaid → Bool
same_key (by_names name value) (by_names other word) = same_name name other && same_value value word
same_key (by_syntax text) (by_syntax other) = bytes_eq text other
same_key (by_word word) (by_word other) = bytes_eq word other
same_key (by_command name) (by_command other) = bytes_eq name other
same_key _ _ = false

-- ---- entries

-- an entry and its key
pub record RowSaid : Type 0 where
  pub key : KeySaid
  pub entry : EntrySaid

abbrev pub entries_once : List RowSaid → List EntrySaid
entries_once rows = map (λ row. row.entry) (each_once (λ (x y : RowSaid). same_key x.key y.key) rows)
