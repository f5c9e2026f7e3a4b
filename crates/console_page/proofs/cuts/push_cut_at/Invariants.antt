use Rattle.std.proofs.Common.{◌≡◌, ◌++◌, ◌≤◌, ◌-◌, take, drop, false, length, string_bytes}
use Rattle.std.specs.Str.{IsCharBoundary}
use Rattle.console_page.specs.Usage.{cut_bars}
use Rattle.console_page.proofs.cuts.push_cut_at.Given as goal

-- what is written, what follows the last cut, and what the rest comes to, make up the whole
abbrev pub invariant-loop-at : goal.invariant-loop-at
invariant-loop-at g l = record {
  in_order : l.start ≤ l.at;
  boundary : IsCharBoundary l.item l.start;
  written : string_bytes l.out ++ (take (l.at - l.start) (drop l.start l.item) ++ cut_bars l.least l.depth l.is_after_bar (drop l.at l.item)) ≡ string_bytes l.initial.out ++ cut_bars l.least (length l.item) false l.item;
}
