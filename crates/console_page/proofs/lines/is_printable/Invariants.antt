use Rattle.std.proofs.Common.{◌≡◌, take}
use Rattle.std.specs.Int.{is_in_range}
use Rattle.std.specs.List.{list_all}
use Rattle.console_page.proofs.lines.is_printable.Given as goal

abbrev pub invariant-loop-byte : goal.invariant-loop-byte
invariant-loop-byte l = l.printable ≡ list_all (is_in_range 0x20 0x7E) (take l.byte-index l.bytes)
