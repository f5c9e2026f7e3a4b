use Rattle.std.proofs.Common.{length, map, sym}
use Rattle.std.proofs.lemmas.List.{length-map}
use Rattle.drafts.proofs.Blocks.{cut_done}
use Rattle.drafts.proofs.passages.passages.Goals as goal

pub returns : goal.returns
returns g c =
    cut_done _ (map (λ line. line.now) c.args.lines.now) c.deref-block-items.result.now _ c.loop-block.block-index (length c.args.lines.now) c.deref-block-items.ensures.value c.loop-block-test.false
    (sym (length-map c.args.lines.now (λ line. line.now))) c.in_ok-blocks.ensures.begun c.in_ok-blocks.ensures.whole c.loop-block.invariant.so_far
