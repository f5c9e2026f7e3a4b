use Rattle.std.proofs.Common.{◌≡◌, ◌≤◌, ◌*◌, length, take, flat_map}
use Rattle.replay.specs.Steps.{usual_spelling}
use Rattle.replay.proofs.encoding.fill.Given as goal

abbrev pub invariant-loop-index : goal.invariant-loop-index
invariant-loop-index l = record {
  in_range : l.index ≤ length l.bytes;
  fits : l.end ≤ 2 * l.index;
  text : take l.end l.room ≡ flat_map usual_spelling (take l.index l.bytes);
}
