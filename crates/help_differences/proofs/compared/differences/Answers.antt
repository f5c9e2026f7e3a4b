use Rattle.std.proofs.Common.{ap, map}
use Rattle.help_differences.specs.View.{difference_said, name_said}
use Rattle.help_differences.proofs.Merged.{each_if}
use Rattle.help_differences.proofs.compared.differences.Goals as goal

pub returns-clause-each : goal.returns-clause-each
returns-clause-each g c =
    each_if c.merged.result (λ found. map difference_said found.items) _ _ _ _ _ _ (ap (λ ns. map name_said ns) c.deref.ensures.value) (ap (λ ns. map name_said ns) c.deref-2.ensures.value)
    c.in_ok-described.ensures.same c.in_ok-help.ensures.same c.merged.ensures.each
