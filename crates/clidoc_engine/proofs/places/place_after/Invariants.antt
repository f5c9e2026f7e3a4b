use Rattle.std.proofs.Common.{◌≡◌, ◌+◌, ◌≤◌, take}
use Rattle.clidoc_engine.specs.Places.{column_after, line_after}
use Rattle.clidoc_engine.proofs.places.place_after.Given as goal

-- the place after the bytes so far, neither number of which is greater than the number of bytes
abbrev pub invariant-loop-byte : goal.invariant-loop-byte
invariant-loop-byte l = record {
  line : l.line ≡ line_after (take l.byte-index l.front);
  column : l.column ≡ column_after (take l.byte-index l.front);
  low_line : l.line ≤ 1 + l.byte-index;
  low_column : l.column ≤ 1 + l.byte-index;
}
