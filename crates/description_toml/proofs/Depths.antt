-- How deep the tables inside a table lie: less deep than the table.
use Rattle.std.proofs.Common.{◌≡◌, ℕ, suc, ◌<◌, ◌≤◌, List, ◌∷◌, get_or, length, Bool, true, false, Option, Some, None, refl, ap, ◌∙◌, arith, Ordering, nat_cmp}
use Rattle.std.specs.Prelude.{max, option_and_then, if◌then◌else◌}
use Rattle.std.specs.Cmp.Lexicographic.{slice_cmp}
use Rattle.std.specs.Ordering.{match_ordering}
use Rattle.toml.specs.Data.{Data, array, table, as_array, as_table, depth, items_depth, members_depth, Items, no_items, Members, no_members, member, get_member}
use Rattle.toml.specs.View.{items_view, view}
use Rattle.toml.specs.declared.value.Value.{Value}
use Rattle.description.specs.Content.{CommandsSaid, GroupsSaid, no_commands, no_groups}
use Rattle.description_toml.specs.Described.{as_commands, as_groups, commands_at, each_command, each_group, groups_at}
use Rattle.description_toml.specs.Described.Values.{all_tables, are_tables, tables_at, value_or}

pub item_depth : (vs : List Value) (i : ℕ) (d : Value) → i < length vs → depth (view (get_or vs i d)) ≤ items_depth (items_view vs)
item_depth (v ∷ vs) (suc i) d h = let rest = item_depth vs i d (omega arith) in omega (arith, rest)
item_depth x y d h = grind arith

by_order : (o : Ordering) (x : Data) (rest : Option Data) (e : Data) (ms : Members) → match_ordering o rest (Some x) rest ≡ Some e → (rest ≡ Some e → depth e ≤ members_depth ms) → depth e ≤ max (depth x) (members_depth ms)
by_order o x rest e ms h5 h6 = grind arith

pub value_depth : (key : List ℕ) (ms : Members) (e : Data) → get_member key ms ≡ Some e → depth e ≤ members_depth ms
value_depth key no_members e h = absurd cc
value_depth key (member k d ms) e h = by_order (slice_cmp nat_cmp key k) d (get_member key ms) e ms h (value_depth key ms e)

-- ---- the tables of an array, and how deep they lie

array_depth : (d : Data) (items : Items) → option_and_then all_tables (as_array d) ≡ Some items → items_depth items ≤ depth d
array_depth (array ds) items h = by (are_tables ds) h where
  by : (b : Bool) → (if b then Some ds else None) ≡ Some items → items_depth items ≤ suc (items_depth ds)
  by true e = let same : ds ≡ items = cc in rw (← same) (omega arith)
  by false e = absurd cc
array_depth y items h = absurd cc

found_depth : (o : Option Data) (n : ℕ) (items : Items) → ((e : Data) → o ≡ Some e → depth e ≤ n) → value_or (Some no_items) (λ d. option_and_then all_tables (as_array d)) o ≡ Some items → items_depth items ≤ n
found_depth None n items below h = let same : no_items ≡ items = cc in rw (← same) (omega arith)
found_depth (Some d) n items below h = let a = below d refl in let b = array_depth d items h in omega (arith, a, b)

pub tables_depth : (key : List ℕ) (ms : Members) (items : Items) → tables_at key ms ≡ Some items → items_depth items ≤ members_depth ms
tables_depth key ms items h = found_depth (get_member key ms) (members_depth ms) items (value_depth key ms) h

-- ---- the groups and the commands at a key are those of its array

commands_found : (o : Ordering) (d : Data) (x : Option CommandsSaid) (e : Option Data) → x ≡ value_or (Some no_commands) as_commands e → match_ordering o x (as_commands d) x ≡ value_or (Some no_commands) as_commands (match_ordering o e (Some d) e)
commands_found o d x e h4 = grind arith

commands_at-get : (key : List ℕ) (ms : Members) → commands_at key ms ≡ value_or (Some no_commands) as_commands (get_member key ms)
commands_at-get key no_members = refl
commands_at-get key (member k d ms) = commands_found (slice_cmp nat_cmp key k) d (commands_at key ms) (get_member key ms) (commands_at-get key ms)

groups_found : (o : Ordering) (d : Data) (x : Option GroupsSaid) (e : Option Data) → x ≡ value_or (Some no_groups) as_groups e → match_ordering o x (as_groups d) x ≡ value_or (Some no_groups) as_groups (match_ordering o e (Some d) e)
groups_found o d x e h4 = grind arith

groups_at-get : (key : List ℕ) (ms : Members) → groups_at key ms ≡ value_or (Some no_groups) as_groups (get_member key ms)
groups_at-get key no_members = refl
groups_at-get key (member k d ms) = groups_found (slice_cmp nat_cmp key k) d (groups_at key ms) (get_member key ms) (groups_at-get key ms)

all_of : (ds items : Items) → all_tables ds ≡ Some items → ds ≡ items
all_of ds items h = grind arith

commands_of : (o : Option Data) (items : Items) → value_or (Some no_items) (λ d. option_and_then all_tables (as_array d)) o ≡ Some items → value_or (Some no_commands) as_commands o ≡ each_command items
commands_of o items h2 = grind (arith, all_of)

groups_of : (o : Option Data) (items : Items) → value_or (Some no_items) (λ d. option_and_then all_tables (as_array d)) o ≡ Some items → value_or (Some no_groups) as_groups o ≡ each_group items
groups_of o items h2 = grind (arith, all_of)

pub tables_commands : (key : List ℕ) (ms : Members) (items : Items) → tables_at key ms ≡ Some items → commands_at key ms ≡ each_command items
tables_commands key ms items h = commands_at-get key ms ∙ commands_of (get_member key ms) items h

pub tables_groups : (key : List ℕ) (ms : Members) (items : Items) → tables_at key ms ≡ Some items → groups_at key ms ≡ each_group items
tables_groups key ms items h = groups_at-get key ms ∙ groups_of (get_member key ms) items h

-- ---- values that are tables

pub is_table : (d : Data) (ms : Members) → as_table d ≡ Some ms → d ≡ table ms
is_table d ms h2 = grind arith

pub table_depth : (d : Data) (ms : Members) → as_table d ≡ Some ms → depth d ≡ suc (members_depth ms)
table_depth d ms h = ap depth (is_table d ms h)
