use Rattle.std.proofs.Common.{arith}
use Rattle.bpaf_roff.proofs.lemmas.Marks.{marks_more}
use Rattle.bpaf_roff.proofs.escape.text.mark_all.Goals as goal

pub loop-index-preserved : goal.loop-index-preserved
loop-index-preserved c =
    let inv = c.loop-index.invariant in
    record {
      some = omega arith;
      marked = marks_more c.args.bytes.now c.loop-index.marks c.loop-index.index c.mark.result inv.some (omega (arith, c.loop-index-test.true, c.requires.short)) inv.marked c.mark.ensures;
    }

pub returns : goal.returns
returns c = λ i lt. c.loop-index.invariant.marked i (omega (arith, lt))
