use Rattle.std.proofs.Common.{◌≡◌, ◌+◌, false, map, drop}
use Rattle.description_texts.specs.Texts.{list_more}
use Rattle.description_texts.proofs.texts.list_len.Given as goal

abbrev pub invariant-loop-at : goal.invariant-loop-at
invariant-loop-at l = l.at + list_more l.is_after_blank (map (λ line. line.now) (drop l.at l.lines)) ≡ list_more false (map (λ line. line.now) l.lines)
