use Rattle.std.proofs.Common.{◌≡◌, drop, map}
use Rattle.std.specs.Prelude.{fold}
use Rattle.drafts.specs.Texts.{width_of, wider}
use Rattle.drafts.proofs.texts.width_of.Given as goal

abbrev pub invariant-loop-line : goal.invariant-loop-line
invariant-loop-line l = record {
  so_far : fold wider l.width (map (λ line. line.now) (drop l.line-index l.lines)) ≡ width_of (map (λ line. line.now) l.lines);
}
