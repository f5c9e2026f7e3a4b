use Rattle.std.proofs.Common.{subst}
use Rattle.std.specs.List.Sorted.{IsPermutation}
use Rattle.help_differences.proofs.Sorted.{deduped_in_order, deduped_same}
use Rattle.help_differences.proofs.compared.sorted.Goals as goal

pub returns-clause-in_order : goal.returns-clause-in_order
returns-clause-in_order g c = deduped_in_order _ _ c.sort_unstable.ensures.sorted c.dedup.ensures.filtered

pub returns-clause-same : goal.returns-clause-same
returns-clause-same g c =
    deduped_same c.args.names.now c.sort_unstable.new.self.items c.dedup.new.self.items
    (subst (λ ns. IsPermutation ns c.sort_unstable.new.self.items) c.in_ok-copy.ensures.items c.sort_unstable.ensures.permutation) c.dedup.ensures.filtered
