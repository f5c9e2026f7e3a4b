use Rattle.std.proofs.Common.{◌≡◌, take}
use Rattle.std.specs.List.{list_all}
use Rattle.console_page.specs.Steps.{stands_alone}
use Rattle.console_page.proofs.texts.stand_alone.Given as goal

abbrev pub invariant-loop-byte : goal.invariant-loop-byte
invariant-loop-byte l = l.stand ≡ list_all stands_alone (take l.byte-index l.bytes)
