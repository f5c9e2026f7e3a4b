use Rattle.description_usage.proofs.Dashes.{dashes_trimmed}
use Rattle.description_usage.proofs.syntax.without_dashes.Goals as goal

pub returns : goal.returns
returns c = dashes_trimmed c.args.name.now c.trim_start_matches.result.now c.trim_start_matches.ensures.matches
