use Rattle.drafts.proofs.Standing.{options_of_a_line_stand}
use Rattle.drafts.proofs.laws.options_stand_in_their_line.Goals as goal

pub returns : goal.returns
returns c = options_of_a_line_stand
