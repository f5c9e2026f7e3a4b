use Rattle.std.proofs.Common.{◌≡◌, ◌++◌, drop, map, string_bytes}
use Rattle.drafts.specs.Strays.{strays}
use Rattle.drafts.specs.View.{held, stray_said}
use Rattle.drafts.proofs.strays.push_strays.Given as goal

abbrev pub invariant-loop-stray : goal.invariant-loop-stray
invariant-loop-stray g l = record {
  so_far : string_bytes l.out ++ strays (held l.taken) (map stray_said (drop l.stray-index l.strays)) ≡ string_bytes l.initial.out ++ strays (held l.initial.taken) (map stray_said l.strays);
}
