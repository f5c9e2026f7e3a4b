use Rattle.std.proofs.Common.{arith}
use Rattle.replay.specs.Steps.{size_of}
use Rattle.replay.proofs.Blocks.{of_more}
use Rattle.replay.proofs.encoding.put_sizes.Goals as goal

pub loop-index-preserved : goal.loop-index-preserved
loop-index-preserved c =
    of_more size_of c.args.bytes.now c.loop-index.sizes c.loop-index.index c.size_of.result (omega (arith, c.loop-index-test.true, c.requires.short)) c.loop-index.invariant c.size_of.ensures
