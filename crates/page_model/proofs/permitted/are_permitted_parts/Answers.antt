use Rattle.std.proofs.Common.{ap, ◌∙◌}
use Rattle.std.specs.Option.{is_none}
use Rattle.page_model.specs.View.{part_of}
use Rattle.page_model.proofs.Lists.{parts_permitted}
use Rattle.page_model.proofs.Refused.{none_seen}
use Rattle.page_model.proofs.permitted.are_permitted_parts.Goals as goal

pub returns : goal.returns
returns g c = none_seen c.refused_in_parts.result c.is_none.result c.is_none.ensures ∙ ap is_none c.refused_in_parts.ensures ∙ parts_permitted part_of c.args.parts.now
