use Rattle.std.proofs.Common.{◌≡◌, take}
use Rattle.std.specs.List.{list_all}
use Rattle.web_page.specs.Steps.Bytes.{is_written_byte}
use Rattle.web_page.proofs.writer.are_written_bytes.Given as goal

abbrev pub invariant-loop-byte : goal.invariant-loop-byte
invariant-loop-byte l = l.written ≡ list_all is_written_byte (take l.byte-index l.bytes)
