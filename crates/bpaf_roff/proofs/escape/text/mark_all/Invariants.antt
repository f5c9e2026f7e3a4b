use Rattle.std.proofs.Common.{◌≤◌}
use Rattle.bpaf_roff.specs.Steps.Output.{AreMarks}
use Rattle.bpaf_roff.proofs.escape.text.mark_all.Given as goal

abbrev pub invariant-loop-index : goal.invariant-loop-index
invariant-loop-index l = record {
  some : 1 ≤ l.index;
  marked : AreMarks l.bytes l.index l.marks;
}
