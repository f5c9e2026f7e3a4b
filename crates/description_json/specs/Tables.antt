-- The table that a JSON text gives, in the terms of TOML: its keys in order, as a table holds them.
use Rattle.std.specs.Prelude.{ℕ, List, if◌then◌else◌, Option, Some, None, is_some, option_map, option_and_then}
use Rattle.std.specs.Ordering.{nat_cmp, match_ordering}
use Rattle.std.specs.Cmp.Lexicographic.{slice_cmp}
use Rattle.json.specs.Json as json
use Rattle.json.specs.Lex.{tokens}
use Rattle.toml_parser.specs.Numbers.{unquoted}
use Rattle.toml_parser.specs.Strings.{recursion_limit}
use Rattle.toml.specs.Data.{Data, string, boolean, array, table, Items, no_items, item, Members, no_members, member, get_member}
use Rattle.toml.specs.Parse.{scalar_data}

-- the members with one more, at its place among the keys
abbrev pub put_member : List ℕ → Data → Members → Members
put_member k d no_members = member k d no_members
put_member k d (member l e ms) =
    match_ordering (slice_cmp nat_cmp k l) (member k d (member l e ms)) (member l d ms) (member l e (put_member k d ms))

-- the same where none of them has its key: a key stands once
abbrev pub with_member : List ℕ → Data → Members → Option Members
with_member k d ms = if is_some (get_member k ms) then None else Some (put_member k d ms)

-- A number of JSON is one of TOML, with the same letters: an integer, which 64 bits have to hold, or a float, which is
-- finite.
abbrev pub number_data : List ℕ → Option Data
number_data text = option_map (λ read. scalar_data read.0) (unquoted text)

-- the data of a value: every value except null has some
abbrev mutual
  pub value_data : json.Json → Option Data
  value_data json.null = None
  value_data (json.boolean b) = Some (boolean b)
  value_data (json.number text) = number_data text
  value_data (json.string text) = Some (string text)
  value_data (json.array js) = option_map array (items_data js)
  value_data (json.object ms) = option_map table (members_data ms)

  pub items_data : json.Items → Option Items
  items_data json.no_items = Some no_items
  items_data (json.item j js) = option_and_then (λ d. option_map (item d) (items_data js)) (value_data j)

  pub members_data : json.Members → Option Members
  members_data json.no_members = Some no_members
  members_data (json.member k j ms) = option_and_then (λ d. option_and_then (with_member k d) (members_data ms)) (value_data j)

-- an object stands at the top
abbrev pub top_members : json.Json → Option Members
top_members json.null = None
top_members (json.boolean b) = None
top_members (json.number text) = None
top_members (json.string text) = None
top_members (json.array js) = None
top_members (json.object ms) = members_data ms

-- the value that a text is, with arrays and objects at most as deep as the arrays of TOML
unfoldable pub json_value : List ℕ → Option json.Json
json_value text = option_and_then (λ p. json.if_last p.0 p.1) (json.value recursion_limit (tokens text))

-- the table that a text gives
unfoldable pub json_table : List ℕ → Option Members
json_table text = option_and_then top_members (json_value text)
