use Rattle.std.specs.Prelude.{◌≡◌}
use Rattle.bpaf_doc.proofs.lemmas.Console.Words.{take, list_all}
use Rattle.std.specs.Int.{is_in_range}
use Rattle.bpaf_doc.proofs.console.page.is_printable.Given as goal

abbrev pub invariant-loop-byte : goal.invariant-loop-byte
invariant-loop-byte l = l.printable ≡ list_all (is_in_range 0x20 0x7E) (take l.byte-index l.bytes)
