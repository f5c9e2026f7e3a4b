use Rattle.std.proofs.Common.{ap, ◌∙◌}
use Rattle.std.specs.Option.{is_none}
use Rattle.page_model.specs.View.{form_of}
use Rattle.page_model.proofs.Lists.{forms_permitted}
use Rattle.page_model.proofs.Refused.{none_seen}
use Rattle.page_model.proofs.permitted.are_permitted_forms.Goals as goal

pub returns : goal.returns
returns g c = none_seen c.refused_in_forms.result c.is_none.result c.is_none.ensures ∙ ap is_none c.refused_in_forms.ensures ∙ forms_permitted form_of c.args.forms.now
