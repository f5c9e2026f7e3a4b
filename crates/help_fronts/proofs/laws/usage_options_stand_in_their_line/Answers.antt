use Rattle.help_fronts.proofs.Stands.{usage_options_stand_in_their_line}
use Rattle.help_fronts.proofs.laws.usage_options_stand_in_their_line.Goals as goal

pub returns : goal.returns
returns c = usage_options_stand_in_their_line
