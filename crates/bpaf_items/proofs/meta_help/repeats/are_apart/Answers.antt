use Rattle.std.specs.Prelude.{◌≡◌}
use Rattle.bpaf_items.proofs.Words.{◌∙◌, ap, arith, length, map, subst, take_all, eqb-true, flat_map, nat_eq, IsDistinct, dedup, entry_hash, entry_at}
use Rattle.std.proofs.lemmas.List.Filters.{dedup_is}
use Rattle.bpaf_items.proofs.Page.Repeating.{distinct_sorted}
use Rattle.bpaf_items.proofs.meta_help.repeats.are_apart.Goals as goal

pub returns : goal.returns
returns g c = λ same.
    let sorted = c.sort_unstable.new.self.items in
    let kept : c.dedup.new.self.items ≡ dedup nat_eq sorted = dedup_is nat_eq sorted c.dedup.new.self.items c.dedup.ensures.filtered in
    let whole : length (dedup nat_eq sorted) ≡ length sorted
    = omega (arith, ap length kept, eqb-true c.len.result c.len-count.result same, c.len.ensures, c.len-count.ensures, c.dedup.new.self.ok, c.sort_unstable.new.self.ok) in
    let apart = distinct_sorted c.loop-entry.hashes.items sorted c.sort_unstable.ensures.permutation c.sort_unstable.ensures.sorted whole in
    subst (IsDistinct nat_eq) (c.loop-entry.invariant ∙ ap (λ es. flat_map entry_hash (map entry_at es)) (take_all c.loop-entry.entry-index c.args.entries.now (omega (arith, c.loop-entry-test.false)))) apart
