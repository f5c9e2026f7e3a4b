use Rattle.std.proofs.Common.{◌≡◌, ◌+◌, ◌-◌, ◌<◌, length, get_or, arith, refl, subst, sym, ◌∙◌}
use Rattle.file_names.specs.Names.{are_file_names, is_first_name}
use Rattle.file_names.proofs.Names.{Held, alone_is, held_more, key_added, keys_updated, names_from, passed_here, refused_here}
use Rattle.file_names.proofs.first_refused.Goals as goal

pub loop-index-preserved-then-is_refused : goal.loop-index-preserved-then-is_refused
loop-index-preserved-then-is_refused g c =
    let fs = c.args.names.now in
    let i = c.loop-index.index - 1 in
    let in_range = c.loop-index.invariant.in_range in
    let positive = c.loop-index-test.true in
    let before : c.loop-index.index ≡ i + 1 = omega arith in
    let below : i < length fs = omega arith in
    let f = get_or fs i _ in
    let held = subst (λ n. Held c.loop-index.keys_after.keys fs n) before c.loop-index.invariant.known in
    let same = c.in_ok-name_key.ensures in
    let key = c.in_ok-name_key.field-0 in
    let alone = c.in_ok-is_alone.is_alone in
    let is = alone_is fs i f _ refl below c.loop-index.keys_after.keys c.insert.new.self.keys key same held alone (key_added c.loop-index.keys_after.keys key alone c.in_ok-is_alone.ensures.added) in
    let refused = sym c.if-is_refused.true ∙ c.is_refused.ensures in
    record {
      in_range = omega arith;
      within = omega arith;
      known = held_more fs i f _ refl below c.loop-index.keys_after.keys c.insert.new.self.keys key same held (keys_updated c.loop-index.keys_after.keys c.insert.new.self.keys key c.in_ok-is_alone.ensures.updates.0);
      judged = refused_here fs i f _ refl below alone is refused;
    }

pub loop-index-preserved : goal.loop-index-preserved
loop-index-preserved g c =
    let fs = c.args.names.now in
    let i = c.loop-index.index - 1 in
    let in_range = c.loop-index.invariant.in_range in
    let positive = c.loop-index-test.true in
    let before : c.loop-index.index ≡ i + 1 = omega arith in
    let below : i < length fs = omega arith in
    let f = get_or fs i _ in
    let held = subst (λ n. Held c.loop-index.keys_after.keys fs n) before c.loop-index.invariant.known in
    let judged = subst (λ n. is_first_name (names_from fs c.loop-index.first) ≡ are_file_names (names_from fs n)) before c.loop-index.invariant.judged in
    let same = c.in_ok-name_key.ensures in
    let key = c.in_ok-name_key.field-0 in
    let alone = c.in_ok-is_alone.is_alone in
    let is = alone_is fs i f _ refl below c.loop-index.keys_after.keys c.insert.new.self.keys key same held alone (key_added c.loop-index.keys_after.keys key alone c.in_ok-is_alone.ensures.added) in
    let passed = sym c.if-is_refused.false ∙ c.is_refused.ensures in
    record {
      in_range = omega arith;
      within = c.loop-index.invariant.within;
      known = held_more fs i f _ refl below c.loop-index.keys_after.keys c.insert.new.self.keys key same held (keys_updated c.loop-index.keys_after.keys c.insert.new.self.keys key c.in_ok-is_alone.ensures.updates.0);
      judged = passed_here fs i f _ refl below alone is c.loop-index.first passed judged;
    }
