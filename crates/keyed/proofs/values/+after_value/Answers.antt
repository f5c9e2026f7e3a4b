use Rattle.std.proofs.Common.{◌≡◌, ◌==◌, ◌-◌, ◌<◌, true, false, Some, sym, ap, ◌∙◌, rules, arith}
use Rattle.std.proofs.lemmas.Grind.{common_steps}
use Rattle.std.proofs.lemmas.Option.{same_Some}
use Rattle.toml_parser.specs.Lexical.{first, skip_blank}
use Rattle.toml_parser.specs.Reading.{key_view}
use Rattle.toml.specs.Data.{push_item}
use Rattle.toml.specs.Parse.{after_element, key_equals, val}
use Rattle.toml.proofs.Turns.{val_atom}
use Rattle.keyed.proofs.Turns.{array_ends, items_stop, items_turn, keyval_turn, members_stop, members_turn, table_ends}
use Rattle.keyed.proofs.values.+after_value.Goals as goal

pub after_array-returns-then-first-eq93-clause-end : goal.after_array-returns-then-first-eq93-clause-end
after_array-returns-then-first-eq93-clause-end t c n found p read =
    let (m, more, now) = c.items.invariant.2 n found p read in
    let closing : (first (skip_blank c.items.rest.now) == 93) ≡ true = grind (arith, common_steps) in
    c.skip.ensures.rest ∙ rw c.skip_blank-start.ensures.rest (items_stop (val c.args.depth) m more _ p now closing)

pub after_array-items-preserved : goal.after_array-items-preserved
after_array-items-preserved t c =
    let start_is = c.skip_blank-start.ensures.rest in
    let other : (first (skip_blank c.items.rest.now) == 93) ≡ false = grind (arith, common_steps) in
    let shorter = c.in_ok-after.ensures.shorter in
    let within = c.in_ok-rest.ensures.within in
    let before = c.skip_blank-start.ensures.within in (
      search rules,
      omega (arith, c.items.invariant.1),
      λ n found p read.
          let (m, more, now) = c.items.invariant.2 n found p read in
          let (d, after, next, is, element, then) = items_turn (val c.args.depth) m more _ p now other in
          let same_after : c.in_ok-after.after.now ≡ after = c.in_ok-after.ensures.end (d, after) (rw start_is is) in
          let same_next : c.in_ok-rest.rest.now ≡ next = same_Some _ _ (sym c.in_ok-rest.ensures.value ∙ ap (after_element 93) same_after ∙ element) in
          (m - 1, push_item more d, rw same_next then),
    )

pub after_inline_table-returns-then-first-eq125-clause-end : goal.after_inline_table-returns-then-first-eq125-clause-end
after_inline_table-returns-then-first-eq125-clause-end t c n found p read =
    let (m, more, now) = c.members.invariant.2 n found p read in
    let closing : (first (skip_blank c.members.rest.now) == 125) ≡ true = grind (arith, common_steps) in
    c.skip.ensures.rest ∙ rw c.skip_blank-start.ensures.rest (members_stop (val c.args.depth) m more _ p now closing)

pub after_inline_table-members-preserved : goal.after_inline_table-members-preserved
after_inline_table-members-preserved t c =
    let start_is = c.skip_blank-start.ensures.rest in
    let other : (first (skip_blank c.members.rest.now) == 125) ≡ false = grind (arith, common_steps) in
    let shorter_key = c.in_ok-at_value.ensures.shorter in
    let shorter = c.in_ok-after.ensures.shorter in
    let within = c.in_ok-rest.ensures.within in
    let before = c.skip_blank-start.ensures.within in
    let read_key : key_equals (skip_blank c.members.rest.now) ≡ Some (key_view c.in_ok-at_value.field-0-0, c.in_ok-at_value.at_value.now) = rw start_is at c.in_ok-at_value.ensures.value in (
      search rules,
      omega (arith, c.members.invariant.1),
      λ n found p read.
          let (m, more, now) = c.members.invariant.2 n found p read in
          let (e, after, new, next, is, element, then) = members_turn (val c.args.depth) m more _ p now other in
          let (k, value, d, is_key, is_value) = keyval_turn (val c.args.depth) _ (e, after) is in
          let same_value : c.in_ok-at_value.at_value.now ≡ value = ap (λ z. z.1) (same_Some _ (k, value) (sym read_key ∙ is_key)) in
          let same_after : c.in_ok-after.after.now ≡ after = c.in_ok-after.ensures.end (d, after) (rw same_value is_value) in
          let same_next : c.in_ok-rest.rest.now ≡ next = same_Some _ _ (sym c.in_ok-rest.ensures.value ∙ ap (after_element 125) same_after ∙ element) in
          (m - 1, new, rw same_next then),
    )

pub after_value-returns-then-byte-ne123-clause-end : goal.after_value-returns-then-byte-ne123-clause-end
after_value-returns-then-byte-ne123-clause-end t c =
    let a : (first c.args.s.now == 91) ≡ false = grind (arith, common_steps) in
    let b : (first c.args.s.now == 123) ≡ false = grind (arith, common_steps) in
    rw (val_atom c.args.depth c.args.s.now a b) c.after_atom.ensures.end

pub after_value-returns-then-byte-eq91-clause-end : goal.after_value-returns-then-byte-eq91-clause-end
after_value-returns-then-byte-eq91-clause-end t c =
    let some : 0 < c.args.depth = omega arith in
    let a : (first c.args.s.now == 91) ≡ true = grind (arith, common_steps) in
    array_ends c.after_array.result c.args.depth c.args.s.now _ some a c.skip.ensures.rest c.after_array.ensures.end

pub after_value-returns-else-byte-eq91-clause-end : goal.after_value-returns-else-byte-eq91-clause-end
after_value-returns-else-byte-eq91-clause-end t c =
    let some : 0 < c.args.depth = omega arith in
    let a : (first c.args.s.now == 91) ≡ false = grind (arith, common_steps) in
    let b : (first c.args.s.now == 123) ≡ true = grind (arith, common_steps) in
    table_ends c.after_inline_table.result c.args.depth c.args.s.now _ some a b c.skip-else-byte-eq91.ensures.rest c.after_inline_table.ensures.end
