use Rattle.std.proofs.Common.{◌≡◌, drop}
use Rattle.help_fronts.specs.Words.{has_small_letter}
use Rattle.help_fronts.proofs.words.has_small_letter.Given as goal

abbrev pub invariant-loop-byte : goal.invariant-loop-byte
invariant-loop-byte l = record {
  same : has_small_letter (drop l.byte-index l.bytes) ≡ has_small_letter l.bytes;
}
