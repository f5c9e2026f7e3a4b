use Rattle.replay.specs.Steps.{AreOf, size_of}
use Rattle.replay.proofs.encoding.put_sizes.Given as goal

abbrev pub invariant-loop-index : goal.invariant-loop-index
invariant-loop-index l = AreOf size_of l.bytes l.index l.sizes
