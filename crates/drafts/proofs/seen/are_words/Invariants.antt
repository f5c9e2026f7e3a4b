use Rattle.std.proofs.Common.{◌≡◌, drop, map}
use Rattle.std.specs.List.{list_all}
use Rattle.drafts.specs.Seen.{is_word}
use Rattle.drafts.proofs.seen.are_words.Given as goal

abbrev pub invariant-loop-text : goal.invariant-loop-text
invariant-loop-text l = record {
  same : list_all is_word (map (λ t. t.now) (drop l.text-index l.texts)) ≡ list_all is_word (map (λ t. t.now) l.texts);
}
