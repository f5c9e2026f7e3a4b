use Rattle.std.proofs.Common.{◌≡◌, ◌≤◌, [], drop}
use Rattle.markdown_page.specs.Steps.{with_runs}
use Rattle.markdown_page.proofs.span.note_runs.Given as goal

abbrev pub invariant-loop-byte : goal.invariant-loop-byte
invariant-loop-byte g l = record {
  few : l.run ≤ l.byte-index;
  same : with_runs l.seen.items l.run (drop l.byte-index l.bytes) ≡ with_runs [] 0 l.text;
}
