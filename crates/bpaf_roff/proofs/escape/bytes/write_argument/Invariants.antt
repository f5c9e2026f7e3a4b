use Rattle.std.proofs.Common.{◌≡◌, ◌++◌, flat_map, take}
use Rattle.bpaf_roff.specs.Escaping.{spaces_text}
use Rattle.bpaf_roff.proofs.escape.bytes.write_argument.Given as goal

abbrev pub invariant-loop-byte : goal.invariant-loop-byte
invariant-loop-byte g l = l.out.items ≡ l.fn.out.items ++ flat_map spaces_text (take l.byte-index l.bytes)
