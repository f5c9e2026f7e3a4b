use Rattle.bpaf_items.proofs.Words.{◌∙◌, sym, ap, string_bytes, option_map}
use Rattle.bpaf_items.proofs.Page.EnvEntries.{texts_shown}
use Rattle.bpaf_items.proofs.meta_help.env_texts.EnvTexts.get.Goals as goal

pub returns-in-Some : goal.returns-in-Some
returns-in-Some g c =
    rw (← c.self.view_is, c.as_str.ensures.value) (sym (texts_shown c.self.inside.texts c.args.name.now ∙ ap (option_map string_bytes) (sym c.in-Some.ensures.value)))

pub returns-in-None : goal.returns-in-None
returns-in-None g c =
    rw (← c.self.view_is) (sym (texts_shown c.self.inside.texts c.args.name.now ∙ ap (option_map string_bytes) (sym c.in-None.ensures.value)))
