use Rattle.std.proofs.Common.{◌≡◌, ◌++◌, reverse, length}
use Rattle.std.specs.Vec.{vec_items}
use Rattle.shown_letters.proofs.screen.Screen.to_end.Given as goal

abbrev pub invariant-loop-letter : goal.invariant-loop-letter
invariant-loop-letter g l = record {
  place : l.self-inside.place ≡ l.initial.self-inside.place;
  cells : vec_items l.self-inside.after ++ reverse (vec_items l.self-inside.before)
      ≡ vec_items l.initial.self-inside.after ++ reverse (vec_items l.initial.self-inside.before);
}

abbrev pub decreases-loop-letter : goal.decreases-loop-letter
decreases-loop-letter g l = length (vec_items l.self-inside.after)
