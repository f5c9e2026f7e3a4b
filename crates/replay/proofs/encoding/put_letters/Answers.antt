use Rattle.std.proofs.Common.{arith}
use Rattle.replay.specs.Steps.{letter_of}
use Rattle.replay.proofs.Blocks.{of_more}
use Rattle.replay.proofs.encoding.put_letters.Goals as goal

pub loop-index-preserved : goal.loop-index-preserved
loop-index-preserved c =
    of_more letter_of c.args.bytes.now c.loop-index.letters c.loop-index.index c.letter_of.result (omega (arith, c.loop-index-test.true, c.requires.short)) c.loop-index.invariant c.letter_of.ensures
