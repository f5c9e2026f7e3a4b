use Rattle.std.proofs.Common.{map, string_bytes, take}
use Rattle.std.specs.Prelude.{codes}
use Rattle.completions.specs.Table.{lone}
use Rattle.completions.specs.Written.{Writes}
use Rattle.completions.proofs.levels.push_aliases.Given as goal

abbrev pub invariant-loop-alias : goal.invariant-loop-alias
invariant-loop-alias g l = Writes l.shell (string_bytes l.fn.out) (string_bytes l.out) (map (lone (codes "alias")) (map (λ name. name.now) (take l.alias-index l.aliases)))
