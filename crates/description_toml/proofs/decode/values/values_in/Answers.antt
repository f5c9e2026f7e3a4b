use Rattle.std.proofs.Common.{ap}
use Rattle.toml.specs.View.{view}
use Rattle.description_toml.specs.Described.Steps.{words_of}
use Rattle.description_toml.specs.Described.Texts.{as_value}
use Rattle.description_toml.specs.Described.Values.{as_texts}
use Rattle.description_toml.proofs.Listed.{values_read}
use Rattle.description_toml.proofs.decode.values.values_in.Goals as goal

pub returns : goal.returns
returns g c =
    values_read (λ text. text.now) (as_texts as_value (view c.args.value.now)) (words_of c.in_ok-words.words.items) (words_of c.deref.result.now) c.in_ok-listed.listed.now c.checked.result c.in_ok-words.ensures
    (ap words_of c.deref.ensures.value) c.in_ok-listed.ensures c.checked.ensures
