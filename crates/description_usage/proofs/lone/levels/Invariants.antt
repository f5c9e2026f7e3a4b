use Rattle.std.proofs.Common.{◌≡◌, ◌∷◌, ◌++◌, [], drop, reverse}
use Rattle.description_usage.specs.Forms.{depths}
use Rattle.description_usage.proofs.lone.levels.Given as goal

abbrev pub invariant-loop-byte : goal.invariant-loop-byte
invariant-loop-byte g l = l.levels.items ++ depths (reverse l.opened.items) (drop l.byte-index l.bytes) ≡ 0 ∷ depths [] l.bytes
