use Rattle.std.proofs.Common.{◌∙◌}
use Rattle.description_toml.proofs.Listed.{listed, same_read}
use Rattle.description_toml.proofs.decode.values.listed_text.Goals as goal

pub returns-in-Ok : goal.returns-in-Ok
returns-in-Ok g c = same_read (λ text. text.now) _ _ c.lasting.result (c.deref.ensures ∙ c.in-Ok.ensures.ok ∙ listed (λ text. text.now) c.args.words.now) c.lasting.ensures
