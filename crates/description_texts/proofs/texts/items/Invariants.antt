use Rattle.std.proofs.Common.{◌≡◌, ◌++◌, ◌≤◌, ◌-◌, drop, length, map}
use Rattle.page_model.specs.View.{line_of}
use Rattle.description_texts.specs.TextsCut.{cut}
use Rattle.description_texts.specs.Texts.{item_said, plain_more}
use Rattle.description_texts.proofs.texts.items.Given as goal

abbrev pub invariant-loop-at : goal.invariant-loop-at
invariant-loop-at l = record {
  within : l.at ≤ length l.lines;
  found : map (λ item. map (λ line. line_of line.items) item.items) l.found.items ++ cut plain_more item_said (map (λ line. line.now) (drop l.at l.lines)) ≡ cut plain_more item_said (map (λ line. line.now) l.lines);
}

abbrev pub decreases-loop-at : goal.decreases-loop-at
decreases-loop-at l = length l.lines - l.at
