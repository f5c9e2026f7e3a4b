use Rattle.std.proofs.Common.{◌≡◌, map, take}
use Rattle.description_texts.specs.Texts.{code_line}
use Rattle.description_texts.proofs.texts.code.Given as goal

abbrev pub invariant-loop-line : goal.invariant-loop-line
invariant-loop-line l = map (λ line. line.now) l.found.items ≡ map code_line (map (λ line. line.now) (take l.line-index l.lines))
