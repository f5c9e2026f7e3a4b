use Rattle.std.proofs.Common.{◌∙◌}
use Rattle.description_usage.proofs.Parts.{bar_is}
use Rattle.description_usage.proofs.syntax.has_bar.Goals as goal

pub returns : goal.returns
returns c = c.is_some.ensures ∙ bar_is c.first_outside.result c.args.way.now c.as_bytes.result.now c.as_bytes.ensures.value c.first_outside.ensures
