use Rattle.description_usage.proofs.Margins.{back_trimmed}
use Rattle.description_usage.proofs.syntax.without_back.Goals as goal

pub returns : goal.returns
returns c = back_trimmed c.args.text.now c.trim_end_matches.result.now c.trim_end_matches.ensures.matches
