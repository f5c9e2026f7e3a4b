use Rattle.std.proofs.Common.{◌≡◌, ◌++◌, ◌≤◌, ◌-◌, take, drop, string_bytes}
use Rattle.std.specs.Str.{IsCharBoundary}
use Rattle.web_page.specs.Exact.{escaped}
use Rattle.web_page.specs.Steps.Pieces.{Extends}
use Rattle.web_page.proofs.output.push_escaped.Given as goal

-- what is written, and what follows the last escape, stand for the text so far
abbrev pub invariant-loop-at : goal.invariant-loop-at
invariant-loop-at g l = record {
  in_order : l.start ≤ l.at;
  boundary : IsCharBoundary l.text l.start;
  written : string_bytes l.out ++ take (l.at - l.start) (drop l.start l.text) ≡ string_bytes l.initial.out ++ escaped l.in_value (take l.at l.text);
  kept : Extends (string_bytes l.initial.out) (string_bytes l.out);
}
