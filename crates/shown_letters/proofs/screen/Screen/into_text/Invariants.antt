use Rattle.std.proofs.Common.{◌≡◌, ◌++◌, string_bytes, encode_utf8, flat_map, drop}
use Rattle.shown_letters.proofs.screen.Screen.into_text.Given as goal

abbrev pub invariant-loop-letter : goal.invariant-loop-letter
invariant-loop-letter g l = record {
  so_far : string_bytes l.text ++ flat_map encode_utf8 (drop l.letter-index l.letter-items) ≡ flat_map encode_utf8 l.letter-items;
}
