use Rattle.std.proofs.Common.{◌≡◌, ◌++◌, length, string_bytes}
use denote.Text.{Utf8}
use denote.Shadow.{shadow}
use Rattle.replay.specs.Encoding.{spelling}
use Rattle.replay.proofs.encoding.write_characters.Given as goal

-- what was written, and the rest as it is printed, is the whole text as it is printed
abbrev pub invariant-blocks-2 : goal.invariant-blocks-2
invariant-blocks-2 l = shadow (Utf8 l.rest)
    × (string_bytes l.out ++ spelling l.rest ≡ string_bytes l.fn.out ++ spelling l.text)

abbrev pub decreases-blocks-2 : goal.decreases-blocks-2
decreases-blocks-2 l = length l.rest
