use Rattle.std.proofs.Common.{◌≡◌, ◌+◌, drop}
use Rattle.markdown_page.specs.Steps.{first_unseen}
use Rattle.markdown_page.proofs.span.first_unseen.Given as goal

abbrev pub invariant-loop-more : goal.invariant-loop-more
invariant-loop-more l = first_unseen l.seen ≡ l.more + first_unseen (drop l.more l.seen)
