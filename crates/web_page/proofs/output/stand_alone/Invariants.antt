use Rattle.std.proofs.Common.{◌≡◌, take}
use Rattle.std.specs.List.{list_all}
use Rattle.web_page.specs.Steps.Bytes.{is_no_sign}
use Rattle.web_page.proofs.output.stand_alone.Given as goal

abbrev pub invariant-loop-byte : goal.invariant-loop-byte
invariant-loop-byte l = l.stand ≡ list_all is_no_sign (take l.byte-index l.bytes)
