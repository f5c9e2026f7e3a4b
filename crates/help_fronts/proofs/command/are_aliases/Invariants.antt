use Rattle.std.proofs.Common.{◌≡◌, drop, map, not}
use Rattle.std.specs.List.{list_any}
use Rattle.help_fronts.specs.Fronts.{is_alias}
use Rattle.help_fronts.proofs.command.are_aliases.Given as goal

abbrev pub invariant-loop-word : goal.invariant-loop-word
invariant-loop-word l = record {
  same : list_any (λ v. not (is_alias l.name v)) (map (λ w. w.now) (drop l.word-index l.words)) ≡ list_any (λ v. not (is_alias l.name v)) (map (λ w. w.now) l.words);
}
