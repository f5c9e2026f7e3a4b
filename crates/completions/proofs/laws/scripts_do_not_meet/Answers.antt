use Rattle.completions.proofs.Apart.{scripts_do_not_meet}
use Rattle.completions.proofs.laws.scripts_do_not_meet.Goals as goal

pub returns : goal.returns
returns c = scripts_do_not_meet
