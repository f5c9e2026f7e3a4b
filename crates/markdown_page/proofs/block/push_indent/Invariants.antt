use Rattle.std.proofs.Common.{◌≡◌, ◌++◌, string_bytes}
use Rattle.markdown_page.specs.Exact.{indent}
use Rattle.markdown_page.proofs.block.push_indent.Given as goal

abbrev pub invariant-loop : goal.invariant-loop
invariant-loop g l = string_bytes l.page ≡ string_bytes l.initial.page ++ indent l.counter
