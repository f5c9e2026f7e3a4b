use Rattle.std.proofs.Common.{◌≡◌, length}
use Rattle.shown_letters.specs.Terminal.{to_start}
use Rattle.shown_letters.proofs.screen.Screen.to_start.Given as goal

abbrev pub invariant-loop-self : goal.invariant-loop-self
invariant-loop-self g l = record {
  same : to_start l.self ≡ to_start l.initial.self;
}

abbrev pub decreases-loop-self : goal.decreases-loop-self
decreases-loop-self g l = length l.self.before
