use Rattle.std.proofs.Common.{◌≡◌, ◌++◌, string_bytes, replicate}
use Rattle.console_page.proofs.lines.push_blanks.Given as goal

abbrev pub invariant-loop : goal.invariant-loop
invariant-loop g l = string_bytes l.out ≡ string_bytes l.fn.out ++ replicate l.counter 32
