use Rattle.std.proofs.Common.{◌≡◌, map, drop}
use Rattle.description_texts.specs.Texts.{code_more}
use Rattle.description_texts.proofs.TextsLines.{code_total}
use Rattle.description_texts.proofs.texts.code_len.Given as goal

abbrev pub invariant-loop-at : goal.invariant-loop-at
invariant-loop-at l = code_more (map (λ line. line.now) l.lines) ≡ code_total l.len l.at (code_more (map (λ line. line.now) (drop l.at l.lines)))
