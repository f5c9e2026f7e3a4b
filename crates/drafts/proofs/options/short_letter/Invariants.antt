use Rattle.std.proofs.Common.{◌≡◌, drop, map}
use Rattle.drafts.specs.Options.{short_letter}
use Rattle.drafts.proofs.options.short_letter.Given as goal

abbrev pub invariant-loop-name : goal.invariant-loop-name
invariant-loop-name l = record {
  same : short_letter (map (λ n. n.now) (drop l.name-index l.names)) ≡ short_letter (map (λ n. n.now) l.names);
}
