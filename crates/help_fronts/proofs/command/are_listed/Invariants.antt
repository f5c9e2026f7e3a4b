use Rattle.std.proofs.Common.{◌≡◌, drop, map}
use Rattle.std.specs.List.{list_all}
use Rattle.help_fronts.specs.Pieces.{word}
use Rattle.help_fronts.specs.Words.{is_listed}
use Rattle.help_fronts.proofs.command.are_listed.Given as goal

abbrev pub invariant-loop-part : goal.invariant-loop-part
invariant-loop-part l = record {
  same : list_all is_listed (map word (map (λ p. p.now) (drop l.part-index l.parts))) ≡ list_all is_listed (map word (map (λ p. p.now) l.parts));
}
