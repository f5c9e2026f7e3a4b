use Rattle.std.proofs.Common.{◌≡◌, drop, map}
use Rattle.drafts.specs.Options.{long_word}
use Rattle.drafts.proofs.options.long_word.Given as goal

abbrev pub invariant-loop-name : goal.invariant-loop-name
invariant-loop-name l = record {
  same : long_word (map (λ n. n.now) (drop l.name-index l.names)) ≡ long_word (map (λ n. n.now) l.names);
}
