use Rattle.std.proofs.Common.{◌≡◌, ◌++◌, drop, map}
use Rattle.help_fronts.specs.Pieces.{word}
use Rattle.help_fronts.proofs.command.push_parts.Given as goal

abbrev pub invariant-loop-part : goal.invariant-loop-part
invariant-loop-part g l = record {
  so_far : map (λ n. n.now) l.names.items ++ map word (map (λ p. p.now) (drop l.part-index l.parts)) ≡ map (λ n. n.now) l.initial.names.items ++ map word (map (λ p. p.now) l.parts);
}
