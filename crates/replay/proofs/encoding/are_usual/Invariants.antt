use Rattle.std.proofs.Common.{◌≡◌, take}
use Rattle.std.specs.List.{list_all}
use Rattle.replay.specs.Steps.{is_usual}
use Rattle.replay.proofs.encoding.are_usual.Given as goal

abbrev pub invariant-loop-byte : goal.invariant-loop-byte
invariant-loop-byte l = l.usual ≡ list_all is_usual (take l.byte-index l.bytes)
