use Rattle.std.specs.Prelude.{◌-◌, ◌≡◌}
use Rattle.bpaf_items.proofs.Words.{drop, length, given_from, entry_of}
use Rattle.bpaf_items.proofs.meta_help.given.HelpItemsIterIterator.next.Given as goal

abbrev pub invariant-loop-self : goal.invariant-loop-self
invariant-loop-self g l = given_from entry_of l.self-inside.state l.self-inside.ty (drop l.self-inside.at l.self-inside.items.now) ≡ l.fn.self

abbrev pub decreases-loop-self : goal.decreases-loop-self
decreases-loop-self g l = length l.self-inside.items.now - l.self-inside.at
