use Rattle.std.proofs.Common.{rules}
use Rattle.help_fronts.proofs.Boundaries.{before_class}
use Rattle.help_fronts.proofs.bytes.without_end.Goals as goal

pub range-requires-clause-end_boundary : goal.range-requires-clause-end_boundary
range-requires-clause-end_boundary c = before_class c.args.class c.args.text.now c.end_at.result (search rules) (rw c.as_bytes.ensures.value at c.end_at.ensures.passed)
