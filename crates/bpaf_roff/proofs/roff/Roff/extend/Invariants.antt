use Rattle.std.proofs.Common.{◌≡◌, length, map}
use Rattle.bpaf_roff.specs.Roff.{scripts_sum, script_at}
use Rattle.bpaf_roff.specs.Steps.Output.{KeepsFront}
use Rattle.bpaf_roff.proofs.roff.Roff.extend.Given as goal

abbrev pub invariant-loop-other : goal.invariant-loop-other
invariant-loop-other g l = record {
  can : (goal.iterator-loop-other g).can_next l.other-iterator;
  finite : (goal.iterator-loop-other g).is_finite l.other-iterator;
  count : l.count ≡ length l.fn.self.pieces;
  strip : l.strip_newlines ≡ l.fn.self.strip_newlines;
  kept : KeepsFront l.fn.self.pieces l.self.pieces;
  sum : l.self ≡ scripts_sum l.fn.self (map script_at l.yielded);
}
