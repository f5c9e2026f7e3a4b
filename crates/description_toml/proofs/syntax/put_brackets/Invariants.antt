use Rattle.std.proofs.Common.{◌≡◌, drop, filter, fold, reverse}
use Rattle.description_toml.specs.Syntax.{is_bracket, with_bracket}
use Rattle.description_toml.proofs.syntax.put_brackets.Given as goal

abbrev pub invariant-loop-byte : goal.invariant-loop-byte
invariant-loop-byte g l = fold with_bracket (reverse l.left.items) (filter is_bracket (drop l.byte-index l.bytes)) ≡ fold with_bracket (reverse l.fn.left.items) (filter is_bracket l.bytes)
