use Rattle.std.proofs.Common.{◌≡◌, ◌+◌, drop}
use Rattle.markdown_page.specs.Steps.{digits_of}
use Rattle.markdown_page.proofs.line.leading_digits.Given as goal

abbrev pub invariant-loop-at : goal.invariant-loop-at
invariant-loop-at l = digits_of l.line ≡ l.at + digits_of (drop l.at l.bytes)
