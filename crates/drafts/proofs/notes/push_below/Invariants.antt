use Rattle.std.proofs.Common.{◌≡◌, ◌++◌, drop, flat_map, map, string_bytes}
use Rattle.drafts.specs.Notes.{joined_line}
use Rattle.drafts.proofs.notes.push_below.Given as goal

abbrev pub invariant-loop-line : goal.invariant-loop-line
invariant-loop-line g l = record {
  so_far : string_bytes l.text ++ flat_map (joined_line l.between) (map (λ line. line.now) (drop l.line-index l.below)) ≡ string_bytes l.initial.text ++ flat_map (joined_line l.between) (map (λ line. line.now) l.below);
}
