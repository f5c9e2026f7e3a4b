use Rattle.description_usage.proofs.Margins.{front_trimmed}
use Rattle.description_usage.proofs.syntax.without_front.Goals as goal

pub returns : goal.returns
returns c = front_trimmed c.args.text.now c.trim_start_matches.result.now c.trim_start_matches.ensures.matches
