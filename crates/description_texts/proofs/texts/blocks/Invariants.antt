use Rattle.std.proofs.Common.{◌≡◌, ◌++◌, ◌≤◌, ◌-◌, drop, length, map}
use Rattle.page_model.specs.View.{block_of}
use Rattle.description_texts.specs.TextsCut.{cut}
use Rattle.description_texts.specs.Texts.{block_said, lines_more, text_blocks}
use Rattle.description_texts.proofs.texts.blocks.Given as goal

abbrev pub invariant-loop-at : goal.invariant-loop-at
invariant-loop-at l = record {
  within : l.at ≤ length l.lines;
  found : map block_of l.found.items ++ cut lines_more block_said (map (λ line. line.now) (drop l.at l.lines)) ≡ text_blocks l.text;
}

abbrev pub decreases-loop-at : goal.decreases-loop-at
decreases-loop-at l = length l.lines - l.at
