use Rattle.std.proofs.Common.{◌≡◌, drop, map}
use Rattle.std.specs.Prelude.{fold}
use Rattle.drafts.specs.Texts.{narrower, shared_indent}
use Rattle.drafts.proofs.texts.shared_indent.Given as goal

abbrev pub invariant-loop-line : goal.invariant-loop-line
invariant-loop-line l = record {
  so_far : fold narrower l.indent (map (λ line. line.now) (drop l.line-index l.lines)) ≡ shared_indent (map (λ line. line.now) l.lines);
}
