use Rattle.std.proofs.Common.{◌≡◌, ◌++◌, suc, string_bytes}
use Rattle.markdown_page.specs.Bytes.{graves}
use Rattle.markdown_page.proofs.span.push_graves.Given as goal

abbrev pub invariant-loop : goal.invariant-loop
invariant-loop g l = string_bytes l.out ≡ string_bytes l.fn.out ++ graves (suc l.counter)
