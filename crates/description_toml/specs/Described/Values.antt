-- What stands at a key of a table: a flag, a character, a section, a date, or tables.
-- Each answer is `None` where the value is of another kind.
use Rattle.std.specs.Prelude.{chars, codes, ℕ, ◌+◌, nat_lt, ℤ, pos, negsuc, List, [], ◌∷◌, Bool, true, false, ◌&&◌, if◌then◌else◌, Option, Some, None, is_some, option_map, option_and_then, bytes_eq}
use Rattle.std.specs.Fmt.{signed_decimal}
use Rattle.std.specs.List.{join_by, list_any}
use Rattle.description.specs.declared.hints.ValueHint.{ValueHint}
use Rattle.description.specs.declared.hints.ValueHint.TheVariants as hint
use Rattle.toml_datetime.specs.declared.datetime.Datetime.{Datetime}
use Rattle.toml_datetime.specs.declared.datetime.Date.{Date}
use Rattle.toml_datetime.specs.declared.datetime.Offset.{Offset}
use Rattle.toml_datetime.specs.declared.datetime.Time.{Time}
use Rattle.toml_datetime.specs.Text.{date_text}
use Rattle.toml.specs.Data.{Data, string, integer, datetime, Items, no_items, item, Members, no_members, member, get_member, as_array, as_bool, as_str, as_table}
use Rattle.description_toml.specs.Syntax.{is_well_formed}
use Rattle.description_toml.specs.Described.Texts.{as_value, if_passes, is_line, is_section, is_short, is_title, is_value}

-- the default of a value: a text on one line, or a whole number in decimal
abbrev pub default_text : Data → Option (List ℕ)
default_text (string text) = Some text
default_text (integer z) = Some (signed_decimal z)
default_text _ = None

abbrev pub as_default : Data → Option (List ℕ)
as_default d = option_and_then (if_passes is_line) (default_text d)

-- how an option is written
abbrev pub as_syntax : Data → Option (List ℕ)
as_syntax d = option_and_then (if_passes is_well_formed) (as_value d)

-- each key of the table is one of these
abbrev pub has_only : (keys : List (List ℕ)) → Members → Bool
has_only keys no_members = true
has_only keys (member k d ms) = list_any (λ known. bytes_eq known k) keys && has_only keys ms

-- the value at a key, read; or what stands for a key that is left out
abbrev pub value_or : {X : Type 0} → Option X → (Data → Option X) → Option Data → Option X
value_or left_out read None = left_out
value_or left_out read (Some d) = read d

abbrev pub at_key : {X : Type 0} → Option X → (Data → Option X) → (key : List ℕ) → Members → Option X
at_key left_out read key ms = value_or left_out read (get_member key ms)

-- a value that may be left out, and one that may not
abbrev pub optional_at : {X : Type 0} → (Data → Option X) → (key : List ℕ) → Members → Option (Option X)
optional_at read = at_key (Some None) (λ d. option_map Some (read d))

abbrev pub required_at : {X : Type 0} → (Data → Option X) → (key : List ℕ) → Members → Option X
required_at = at_key None

abbrev pub flag_at : (default : Bool) → (key : List ℕ) → Members → Option Bool
flag_at default = at_key (Some default) as_bool

-- a short name is a text of one character
abbrev pub only_character : (characters : List ℕ) → Option ℕ
only_character (c ∷ []) = Some c
only_character _ = None

abbrev pub if_short : ℕ → Option ℕ
if_short c = if is_short c then Some c else None

abbrev pub as_short : Data → Option ℕ
as_short d = option_and_then (λ text. option_and_then if_short (only_character (chars text))) (as_str d)

-- a section of the manual, or a number of one digit
abbrev pub digit_text : ℤ → Option (List ℕ)
digit_text (pos n) = if nat_lt n 10 then Some ((48 + n) ∷ []) else None
digit_text (negsuc n) = None

abbrev pub as_section : Data → Option (List ℕ)
as_section (string text) = if_passes is_section text
as_section (integer z) = digit_text z
as_section _ = None

-- a text, or a TOML date without a time
abbrev pub day_text : Option Date → Option Time → Option Offset → Option (List ℕ)
day_text (Some day) None None = Some (date_text day)
day_text _ _ _ = None

abbrev pub text_of_date : Datetime → Option (List ℕ)
text_of_date dt = day_text dt.date dt.time dt.offset

abbrev pub as_date : Data → Option (List ℕ)
as_date (string text) = if_passes is_title text
as_date (datetime dt) = text_of_date dt
as_date _ = None

-- a table that may be left out
abbrev pub table_at : (key : List ℕ) → Members → Option (Option Members)
table_at = optional_at as_table

-- an array of tables; nothing where it is left out
abbrev pub are_tables : Items → Bool
are_tables no_items = true
are_tables (item d ds) = is_some (as_table d) && are_tables ds

abbrev pub all_tables : Items → Option Items
all_tables ds = if are_tables ds then Some ds else None

abbrev pub tables_at : (key : List ℕ) → Members → Option Items
tables_at = at_key (Some no_items) (λ d. option_and_then all_tables (as_array d))

abbrev pub is_empty : Items → Bool
is_empty no_items = true
is_empty (item d ds) = false

-- the items, each read in order
abbrev pub each_item : {X : Type 0} → (Data → Option X) → Items → Option (List X)
each_item read no_items = Some []
each_item read (item d ds) = option_and_then (λ x. option_map (λ xs. x ∷ xs) (each_item read ds)) (read d)

-- tables, each read in order
abbrev pub in_table : {X : Type 0} → (Members → Option X) → Data → Option X
in_table read d = option_and_then read (as_table d)

abbrev pub each_table : {X : Type 0} → (Members → Option X) → Items → Option (List X)
each_table read = each_item (in_table read)

-- an array of at least one text, each read in order
abbrev pub as_texts : (Data → Option (List ℕ)) → Data → Option (List (List ℕ))
as_texts read d = option_and_then (λ ds. if is_empty ds then None else each_item read ds) (as_array d)

-- no text where the array is left out
abbrev pub words_at : (Data → Option (List ℕ)) → (key : List ℕ) → Members → Option (List (List ℕ))
words_at read = at_key (Some []) (as_texts read)

-- texts with a comma and a blank between each two
abbrev pub listed_texts : List (List ℕ) → List ℕ
listed_texts = join_by (λ text. text) (codes ", ")

-- the possible values, as one text on one line
abbrev pub as_values : Data → Option (List ℕ)
as_values d = option_and_then (λ values. if_passes is_value (listed_texts values)) (as_texts as_value d)

-- what a shell offers, by the word that says it
abbrev pub hint_named : List ℕ → Option ValueHint
hint_named word =
    if bytes_eq word (codes "file") then Some hint.File
    else if bytes_eq word (codes "folder") then Some hint.Folder
    else if bytes_eq word (codes "none") then Some hint.Nothing
    else if bytes_eq word (codes "user") then Some hint.User
    else if bytes_eq word (codes "host") then Some hint.Host
    else None

abbrev pub as_hint : Data → Option ValueHint
as_hint d = option_and_then hint_named (as_str d)
