use Rattle.std.proofs.Common.{◌≡◌, ◌++◌, ◌≤◌, ◌-◌, take, drop, string_bytes}
use Rattle.std.specs.Prelude.{flat_map}
use Rattle.std.specs.Str.{IsCharBoundary}
use Rattle.page_model.proofs.replaced.push_replaced.Given as goal

-- what is written and what lies after the last stand-in are what stands for the text so far
abbrev pub invariant-loop-at : goal.invariant-loop-at
invariant-loop-at g l = record {
  in_order : l.start ≤ l.at;
  boundary : IsCharBoundary l.text l.start;
  written : string_bytes l.out ++ take (l.at - l.start) (drop l.start l.text) ≡ string_bytes l.initial.out ++ flat_map (g.S.StandIns.replaced l.stand_ins) (take l.at l.text);
}
