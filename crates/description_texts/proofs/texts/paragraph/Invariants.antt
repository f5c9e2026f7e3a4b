use Rattle.std.proofs.Common.{◌≡◌, ◌++◌, ◌≤◌, ◌-◌, drop, length, map}
use Rattle.page_model.specs.View.{line_of}
use Rattle.description_texts.specs.TextsCut.{cut}
use Rattle.description_texts.specs.Texts.{line_more, line_said}
use Rattle.description_texts.proofs.texts.paragraph.Given as goal

abbrev pub invariant-loop-at : goal.invariant-loop-at
invariant-loop-at l = record {
  within : l.at ≤ length l.lines;
  found : map (λ line. line_of line.items) l.found.items ++ cut line_more line_said (map (λ line. line.now) (drop l.at l.lines)) ≡ cut line_more line_said (map (λ line. line.now) l.lines);
}

abbrev pub decreases-loop-at : goal.decreases-loop-at
decreases-loop-at l = length l.lines - l.at
