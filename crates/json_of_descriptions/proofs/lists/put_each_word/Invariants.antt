use Rattle.std.proofs.Common.{map, take}
use Rattle.json.specs.Json.{string}
use Rattle.json_of_descriptions.specs.Steps.{PutsValues}
use Rattle.json_of_descriptions.proofs.lists.put_each_word.Given as goal

abbrev pub invariant-loop-word : goal.invariant-loop-word
invariant-loop-word g l = PutsValues l.fn.out l.out (map string (map (λ word. word.now) (take l.word-index l.words)))
