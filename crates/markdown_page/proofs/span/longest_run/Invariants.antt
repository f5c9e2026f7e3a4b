use Rattle.std.proofs.Common.{◌≡◌, ◌≤◌, max, drop}
use Rattle.markdown_page.specs.Reader.{longest_run}
use Rattle.markdown_page.proofs.span.longest_run.Given as goal

abbrev pub invariant-loop-byte : goal.invariant-loop-byte
invariant-loop-byte l = record {
  few : l.run ≤ l.byte-index;
  same : longest_run 0 l.line ≡ max l.longest (longest_run l.run (drop l.byte-index l.bytes));
}
