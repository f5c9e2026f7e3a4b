use Rattle.bpaf_items.proofs.Page.EnvEntries.{texts_inserted}
use Rattle.bpaf_items.proofs.meta_help.env_texts.EnvTexts.insert.Goals as goal

pub returns-in-Ok-clause-ok : goal.returns-in-Ok-clause-ok
returns-in-Ok-clause-ok g c = λ other.
    rw (← c.self.view_is, ← c.in_ok-name.ensures.ok, ← c.in_ok-text.ensures.ok)
    (texts_inserted c.self.inside.texts c.insert.new.self c.in_ok-name.name c.in_ok-text.text c.in-Ok.ensures.updates other)
