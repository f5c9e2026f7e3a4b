use Rattle.std.proofs.Common.{◌≡◌, string_bytes, take}
use Rattle.completions.specs.Scripts.{tag}
use Rattle.completions.proofs.scripts.tag.Given as goal

abbrev pub invariant-loop-byte : goal.invariant-loop-byte
invariant-loop-byte l = string_bytes l.made ≡ tag (take l.byte-index l.bytes)
