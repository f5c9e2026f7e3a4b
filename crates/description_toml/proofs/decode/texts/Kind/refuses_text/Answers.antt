use Rattle.std.proofs.Common.{chars, ◌∙◌}
use Rattle.std.specs.List.{list_all}
use Rattle.description_toml.specs.Described.Kinds.{allows, has_form, is_of}
use Rattle.description_toml.proofs.Refused.{characters_decide, form_decides, of_kind}
use Rattle.description_toml.proofs.decode.texts.Kind.refuses_text.Goals as goal

pub returns-in-None : goal.returns-in-None
returns-in-None c =
    c.refuses_form.ensures ∙ form_decides c.refuses_characters.result (list_all (allows c.args.self) (chars c.args.text.now)) (has_form c.args.self c.args.text.now) (is_of c.args.self c.args.text.now)
    c.refuses_characters.ensures c.in-None.is (of_kind c.args.self c.args.text.now)

pub returns-in_default : goal.returns-in_default
returns-in_default c =
    characters_decide c.refuses_characters.result (list_all (allows c.args.self) (chars c.args.text.now)) (has_form c.args.self c.args.text.now) (is_of c.args.self c.args.text.now)
    c.refuses_characters.ensures c.in_default.not-None (of_kind c.args.self c.args.text.now)
