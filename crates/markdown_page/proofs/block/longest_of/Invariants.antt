use Rattle.std.proofs.Common.{◌≡◌, ◌≤◌, max, drop, map}
use Rattle.markdown_page.specs.Exact.{longest_of}
use Rattle.markdown_page.proofs.block.longest_of.Given as goal

abbrev pub invariant-loop-line : goal.invariant-loop-line
invariant-loop-line l = record {
  many : 2 ≤ l.longest;
  same : longest_of (map (λ line. line.now) l.lines) ≡ max l.longest (longest_of (map (λ line. line.now) (drop l.line-index l.lines)));
}
