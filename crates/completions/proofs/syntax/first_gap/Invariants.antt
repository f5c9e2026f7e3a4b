use Rattle.std.proofs.Common.{◌≤◌, length}
use Rattle.completions.proofs.Syntaxes.{CutSoFar}
use Rattle.completions.proofs.syntax.first_gap.Given as goal

abbrev pub invariant-loop-index : goal.invariant-loop-index
invariant-loop-index l = record {
  in_range : l.index ≤ length l.bytes;
  small : l.depth ≤ l.index;
  cut : CutSoFar l.bytes l.index l.depth;
}
