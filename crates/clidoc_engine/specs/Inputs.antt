-- What the text of a file gives: a description, or nothing, and then why.
use Rattle.std.specs.Prelude.{codes, ◌≡◌, ℕ, ◌+◌, ◌==◌, ◌||◌, List, ◌++◌, Bool, false, not, if◌then◌else◌, Option, Some, None, length, min, take, IsUtf8}
use Rattle.std.specs.List.{ends_with, find}
use Rattle.std.specs.Str.Lossy.{utf8_valid_len}
use Rattle.json.specs.Ascii.{open_brace}
use Rattle.json.specs.Word.{is_space}
use Rattle.toml.specs.Data.{Members}
use Rattle.toml.specs.Errors.{IsMemory, IsWithin, span_start}
use Rattle.toml.specs.Parse.{parse_document}
use Rattle.toml.specs.declared.de.error.Error.{Error}
use Rattle.description.specs.Content.{DescriptionSaid}
use Rattle.description_toml.specs.Described.{described}
use Rattle.description_hints.specs.Hints.{warnings}
use Rattle.description_json.specs.Tables.{json_table}
use Rattle.clidoc_engine.specs.declared.described.Lines.{Lines}
use Rattle.clidoc_engine.specs.declared.notation.Notation.{Notation}
use Rattle.clidoc_engine.specs.declared.notation.Notation.TheVariants.{Json, Toml}
use Rattle.clidoc_engine.specs.declared.places.Place.{Place}
use Rattle.clidoc_engine.specs.Newlines.{without_returns}
use Rattle.clidoc_engine.specs.Places.{column_after, line_after}

-- ---- its notation, and its table

-- the first byte that is no white space, if there is one
abbrev pub first_ink : List ℕ → Option ℕ
first_ink = find (λ byte. not (is_space byte))

abbrev pub is_brace : Option ℕ → Bool
is_brace None = false
is_brace (Some byte) = byte == open_brace

-- JSON where the name of the file ends in `.json`, and where the text begins,
-- after white space, with a brace, as no TOML does
abbrev pub notation_of : (file text : List ℕ) → Notation
notation_of file text = if ends_with ◌==◌ file (codes ".json") || is_brace (first_ink text) then Json else Toml

-- the table that the text gives, as TOML once no carriage return stands before a newline
abbrev pub table_in : Notation → (text : List ℕ) → Option Members
table_in Toml text = parse_document (without_returns text)
table_in Json text = json_table text

-- ---- what it gives

-- the text gives a table, and this description
pub record Describes (file text : List ℕ) (d : DescriptionSaid) : Type 0 where
  pub table : Members
  pub read : table_in (notation_of file text) text ≡ Some table
  pub gives : described table ≡ Some d

-- how many faults or warnings there are
abbrev pub count_of : Lines → ℕ
count_of lines = length lines.told.items + lines.more

-- as many as 20 are reported, or all where there are fewer
abbrev pub TellsTheFirst : Lines → Type 0
TellsTheFirst lines = length lines.told.items ≡ min 20 (count_of lines)

-- the text gives a description that has `count` warnings
pub record HasWarnings (count : ℕ) (file text : List ℕ) : Type 0 where
  pub description : DescriptionSaid
  pub described : Describes file text description
  pub each : count ≡ length (warnings description)

-- the input is not UTF-8, and the place is that of its first byte that is not part of a character
pub record IsNoText (input : List ℕ) (place : Place) : Type 0 where
  pub refused : ¬ IsUtf8 input
  pub line : place.line ≡ line_after (take (utf8_valid_len input) input)
  pub column : place.column ≡ column_after (take (utf8_valid_len input) input)

-- The text is not TOML, the error has a span in it, and the place is where this span begins. The kit says no more of
-- an error: that reading this text gave it is only tested.
pub record IsNoTomlText (text : List ℕ) (place : Place) (error : Error) : Type 0 where
  pub refused : parse_document text ≡ None
  pub not_memory : ¬ IsMemory error
  pub within : IsWithin text error
  pub line : place.line ≡ line_after (take (span_start error) text)
  pub column : place.column ≡ column_after (take (span_start error) text)

-- the text has to be TOML, and is none
abbrev pub IsNoToml : (file text : List ℕ) → Place → Error → Type 0
IsNoToml file text place error = (notation_of file text ≡ Toml) × IsNoTomlText (without_returns text) place error

-- the text gives no table as JSON, and the place is that after a front of it
pub record IsNoJsonText (text : List ℕ) (place : Place) : Type 0 where
  pub refused : json_table text ≡ None
  pub front : List ℕ
  pub after : List ℕ
  pub whole : text ≡ front ++ after
  pub line : place.line ≡ line_after front
  pub column : place.column ≡ column_after front

-- the text has to be JSON, and gives no table
abbrev pub IsNoJson : (file text : List ℕ) → Place → Type 0
IsNoJson file text place = (notation_of file text ≡ Json) × IsNoJsonText text place

-- the text gives a table, and no description
pub record IsNoDescription (file text : List ℕ) : Type 0 where
  pub table : Members
  pub read : table_in (notation_of file text) text ≡ Some table
  pub refused : described table ≡ None
