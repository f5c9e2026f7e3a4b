use Rattle.std.proofs.Common.{◌≤◌, string_bytes}
use Rattle.std.specs.Str.{IsCharBoundary}
use Rattle.markdown_page.proofs.Escapes.{Written}
use Rattle.markdown_page.proofs.escape.push_escaped.Given as goal

abbrev pub invariant-loop-at : goal.invariant-loop-at
invariant-loop-at g l = record {
  in_order : l.start ≤ l.at;
  boundary : IsCharBoundary l.text l.start;
  written : Written l.in_heading l.text (string_bytes l.initial.out) (string_bytes l.out) l.start l.at l.is_after_word;
}
