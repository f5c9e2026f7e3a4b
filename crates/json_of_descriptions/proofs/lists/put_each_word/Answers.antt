use Rattle.std.proofs.Common.{refl}
use Rattle.json.specs.Json.{string}
use Rattle.json_of_descriptions.proofs.Putting.{string_put, values_all, values_next}
use Rattle.json_of_descriptions.proofs.lists.put_each_word.Goals as goal

pub loop-word-preserved : goal.loop-word-preserved
loop-word-preserved g c =
    values_next string (λ word. word.now) c.args.words.now c.loop-word.word-index _ _ c.loop-word-test.true refl c.loop-word.invariant (string_put c.loop-word.out c.token.new.self _ c.in_ok-token.ensures.ok)

pub returns : goal.returns
returns g c = values_all string (λ word. word.now) c.args.words.now c.loop-word.word-index c.loop-word-test.false c.loop-word.invariant
