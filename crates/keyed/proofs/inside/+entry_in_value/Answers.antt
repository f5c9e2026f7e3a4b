use Rattle.std.proofs.Common.{◌≡◌, ◌==◌, ◌<◌, ◌++◌, true, false, length, Some, codes, sym, ap, ◌∙◌, rules, arith}
use Rattle.std.proofs.lemmas.Grind.{common_steps}
use Rattle.std.proofs.lemmas.Option.{same_Some}
use Rattle.toml_parser.specs.Lexical.{first, skip_blank}
use Rattle.toml_parser.specs.Reading.{key_view}
use Rattle.toml.specs.Data.{no_items}
use Rattle.toml.specs.Tables.{no_nodes}
use Rattle.toml.specs.Parse.{after_element, key_equals, val}
use Rattle.keyed.specs.Steps.{StandsInside}
use Rattle.keyed.proofs.Turns.{array_read, array_turn, closed_by, element_stands, found_by, keyval_turn, pair_stands, table_read, table_turn}
use Rattle.keyed.proofs.inside.+entry_in_value.Goals as goal

pub entry_in_array-returns-then-is_empty : goal.entry_in_array-returns-then-is_empty
entry_in_array-returns-then-is_empty t c ends =
    let start_is = c.skip_blank-start.ensures.rest in
    let other : (first (skip_blank c.items.rest.now) == 93) ≡ false = grind (arith, common_steps) in
    let (d, after, next, is, element, then) = array_turn (val c.args.depth) c.items.rest.now (c.items.invariant.2 ends) other in
    let same_after : c.in_ok-following.following.now ≡ after = c.in_ok-following.ensures.end (d, after) (rw start_is is) in
    element_stands c.in_ok-closed.field-0 c.args.depth _ after d
    (c.in_ok-closed.ensures.from ∙ c.line.ensures.from ∙ start_is) (c.in_ok-closed.ensures.following ∙ c.line.ensures.following ∙ same_after)
    (c.in_ok-closed.ensures.closing ∙ ap (λ l. l ++ codes "]") c.line.ensures.closing) is

pub entry_in_array-returns-then-before-index : goal.entry_in_array-returns-then-before-index
entry_in_array-returns-then-before-index t c =
    let start_is = c.skip_blank-start.ensures.rest in
    let other : (first (skip_blank c.items.rest.now) == 93) ≡ false = grind (arith, common_steps) in
    closed_by c.closed-then-before-index.result c.in_ok-entry_in_value.field-0 c.closed-then-before-index.ensures c.in_ok-entry_in_value.ensures λ ends.
    let (d, after, next, is, element, then) = array_turn (val c.args.depth) c.items.rest.now (c.items.invariant.2 ends) other in
    ((d, after), rw start_is is)

pub entry_in_array-items-preserved : goal.entry_in_array-items-preserved
entry_in_array-items-preserved t c =
    let start_is = c.skip_blank-start.ensures.rest in
    let other : (first (skip_blank c.items.rest.now) == 93) ≡ false = grind (arith, common_steps) in
    let shorter = c.in_ok-following.ensures.shorter in
    let within = c.in_ok-rest.ensures.within in
    let before = c.skip_blank-start.ensures.within in (
      search rules,
      omega (arith, c.items.invariant.1),
      λ ends.
          let (d, after, next, is, element, then) = array_turn (val c.args.depth) c.items.rest.now (c.items.invariant.2 ends) other in
          let same_after : c.in_ok-following.following.now ≡ after = c.in_ok-following.ensures.end (d, after) (rw start_is is) in
          let same_next : c.in_ok-rest.rest.now ≡ next = same_Some _ _ (sym c.in_ok-rest.ensures.value ∙ ap (after_element 93) same_after ∙ element) in
          rw same_next then,
    )

pub entry_in_table-returns-then-taken-path : goal.entry_in_table-returns-then-taken-path
entry_in_table-returns-then-taken-path t c ends =
    let start_is = c.skip_blank-start.ensures.rest in
    let other : (first (skip_blank c.members.rest.now) == 125) ≡ false = grind (arith, common_steps) in
    let read_key : key_equals (skip_blank c.members.rest.now) ≡ Some (key_view c.in_ok-key.key, c.in_ok-key.at_value.now) = rw start_is at c.in_ok-key.ensures.value in
    let (e, after, next, is, element, then) = table_turn (val c.args.depth) c.members.rest.now (c.members.invariant.2 ends) other in
    let (k, value, d, is_key, is_value) = keyval_turn (val c.args.depth) _ (e, after) is in
    let same_value : c.in_ok-key.at_value.now ≡ value = ap (λ z. z.1) (same_Some _ (k, value) (sym read_key ∙ is_key)) in
    let same_after : c.in_ok-following.following.now ≡ after = c.in_ok-following.ensures.end (d, after) (rw same_value is_value) in
    pair_stands c.in_ok-closed.field-0 c.args.depth _ after e
    (c.in_ok-closed.ensures.from ∙ c.line.ensures.from ∙ start_is) (c.in_ok-closed.ensures.following ∙ c.line.ensures.following ∙ same_after)
    (c.in_ok-closed.ensures.closing ∙ ap (λ l. l ++ codes "}") c.line.ensures.closing) is

pub entry_in_table-returns-in-Some : goal.entry_in_table-returns-in-Some
entry_in_table-returns-in-Some t c =
    let start_is = c.skip_blank-start.ensures.rest in
    let other : (first (skip_blank c.members.rest.now) == 125) ≡ false = grind (arith, common_steps) in
    let read_key : key_equals (skip_blank c.members.rest.now) ≡ Some (key_view c.in_ok-key.key, c.in_ok-key.at_value.now) = rw start_is at c.in_ok-key.ensures.value in
    closed_by c.closed-in-Some.result c.in_ok-entry_in_value.field-0 c.closed-in-Some.ensures c.in_ok-entry_in_value.ensures λ ends.
    let (e, after, next, is, element, then) = table_turn (val c.args.depth) c.members.rest.now (c.members.invariant.2 ends) other in
    let (k, value, d, is_key, is_value) = keyval_turn (val c.args.depth) _ (e, after) is in
    let same_value : c.in_ok-key.at_value.now ≡ value = ap (λ z. z.1) (same_Some _ (k, value) (sym read_key ∙ is_key)) in
    ((d, after), rw same_value is_value)

pub entry_in_table-members-preserved : goal.entry_in_table-members-preserved
entry_in_table-members-preserved t c =
    let start_is = c.skip_blank-start.ensures.rest in
    let other : (first (skip_blank c.members.rest.now) == 125) ≡ false = grind (arith, common_steps) in
    let shorter_key = c.in_ok-key.ensures.shorter in
    let shorter = c.in_ok-following.ensures.shorter in
    let within = c.in_ok-rest.ensures.within in
    let before = c.skip_blank-start.ensures.within in
    let read_key : key_equals (skip_blank c.members.rest.now) ≡ Some (key_view c.in_ok-key.key, c.in_ok-key.at_value.now) = rw start_is at c.in_ok-key.ensures.value in (
      search rules,
      omega (arith, c.members.invariant.1),
      λ ends.
          let (e, after, next, is, element, then) = table_turn (val c.args.depth) c.members.rest.now (c.members.invariant.2 ends) other in
          let (k, value, d, is_key, is_value) = keyval_turn (val c.args.depth) _ (e, after) is in
          let same_value : c.in_ok-key.at_value.now ≡ value = ap (λ z. z.1) (same_Some _ (k, value) (sym read_key ∙ is_key)) in
          let same_after : c.in_ok-following.following.now ≡ after = c.in_ok-following.ensures.end (d, after) (rw same_value is_value) in
          let same_next : c.in_ok-rest.rest.now ≡ next = same_Some _ _ (sym c.in_ok-rest.ensures.value ∙ ap (after_element 125) same_after ∙ element) in
          rw same_next then,
    )

pub entry_in_value-returns-in-Index : goal.entry_in_value-returns-in-Index
entry_in_value-returns-in-Index t c =
    let s = c.args.s.now in
    let some : 0 < c.args.depth = omega arith in
    let a : (first s == 91) ≡ true = grind (arith, common_steps) in
    found_by StandsInside c.entry_in_array.result c.entry_in_array.ensures λ r.
    let (x, is) = array_read c.args.depth s r.0 some a r.1 in
    (length s, no_items, ((x, r.0.1), rw c.skip.ensures.rest is))

pub entry_in_value-returns-in-Key : goal.entry_in_value-returns-in-Key
entry_in_value-returns-in-Key t c =
    let s = c.args.s.now in
    let some : 0 < c.args.depth = omega arith in
    let a : (first s == 91) ≡ false = grind (arith, common_steps) in
    let b : (first s == 123) ≡ true = grind (arith, common_steps) in
    found_by StandsInside c.entry_in_table.result c.entry_in_table.ensures λ r.
    let (x, is) = table_read c.args.depth s r.0 some a b r.1 in
    (length s, no_nodes, ((x, r.0.1), rw c.skip-in-Key.ensures.rest is))
