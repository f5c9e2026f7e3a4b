use Rattle.std.proofs.Common.{◌≡◌, ◌++◌, drop, map}
use Rattle.drafts.specs.View.{passage_said}
use Rattle.drafts.proofs.Blocks.{cut}
use Rattle.drafts.proofs.passages.passages.Given as goal

abbrev pub invariant-loop-block : goal.invariant-loop-block
invariant-loop-block g l = record {
  so_far : map passage_said l.found.items ++ map (cut (map (λ line. line.now) l.lines)) (drop l.block-index l.block-items) ≡ map (cut (map (λ line. line.now) l.lines)) l.block-items;
}
