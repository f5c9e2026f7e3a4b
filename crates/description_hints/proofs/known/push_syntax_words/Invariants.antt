use Rattle.std.proofs.Common.{◌≡◌, ◌++◌, length}
use Rattle.description_hints.specs.Names.{syntax_words}
use Rattle.description_hints.specs.View.{words_said}
use Rattle.description_hints.proofs.known.push_syntax_words.Given as goal

abbrev pub invariant-loop-word : goal.invariant-loop-word
invariant-loop-word l = words_said l.words.items ++ syntax_words l.rest ≡ words_said l.fn.words.items ++ syntax_words l.syntax

abbrev pub decreases-loop-word : goal.decreases-loop-word
decreases-loop-word l = length l.rest
