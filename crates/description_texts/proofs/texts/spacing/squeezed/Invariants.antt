use Rattle.std.proofs.Common.{◌≡◌, ◌++◌, ◌≤◌, ◌-◌, take, drop, string_bytes}
use Rattle.std.specs.Str.{IsCharBoundary}
use Rattle.description_texts.specs.TextsInside.{squeezed}
use Rattle.description_texts.proofs.texts.spacing.squeezed.Given as goal

-- what is written, what follows the last stand-in, and what is left make up the whole
abbrev pub invariant-loop-at : goal.invariant-loop-at
invariant-loop-at l = record {
  in_order : l.start ≤ l.at;
  boundary : IsCharBoundary l.line l.start;
  written : string_bytes l.out ++ (take (l.at - l.start) (drop l.start l.line) ++ squeezed (drop l.at l.line)) ≡ squeezed l.line;
}
