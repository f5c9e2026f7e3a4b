use Rattle.std.proofs.Common.{◌≡◌, ◌++◌, false}
use Rattle.std.specs.Prelude.{replicate}
use Rattle.markdown_page.proofs.span.widen.Given as goal

abbrev pub invariant-loop : goal.invariant-loop
invariant-loop g l = l.seen.items ≡ l.fn.seen.items ++ replicate l.counter false
