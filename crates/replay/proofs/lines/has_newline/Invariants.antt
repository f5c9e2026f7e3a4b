use Rattle.std.proofs.Common.{◌≡◌, take}
use Rattle.std.specs.List.{list_any}
use Rattle.replay.specs.Replay.{is_newline}
use Rattle.replay.proofs.lines.has_newline.Given as goal

abbrev pub invariant-loop-byte : goal.invariant-loop-byte
invariant-loop-byte l = l.found ≡ list_any is_newline (take l.byte-index l.bytes)
