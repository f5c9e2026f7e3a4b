use Rattle.std.proofs.Common.{◌≡◌, ◌++◌, IsUtf8, string_bytes}
use Rattle.std.specs.Str.Iter.{chars_rest}
use Rattle.replay.specs.Encoding.{spelling}
use Rattle.replay.proofs.encoding.write_each.Given as goal

-- what was written, and the rest as it is printed, is the whole text as it is printed
abbrev pub invariant-loop-character : goal.invariant-loop-character
invariant-loop-character l =
    IsUtf8 (chars_rest l.character-iterator)
    × (string_bytes l.out ++ spelling (chars_rest l.character-iterator) ≡ string_bytes l.fn.out ++ spelling l.text)
