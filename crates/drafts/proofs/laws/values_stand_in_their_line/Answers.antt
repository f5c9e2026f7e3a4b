use Rattle.drafts.proofs.Standing.{values_stand_in_their_line}
use Rattle.drafts.proofs.laws.values_stand_in_their_line.Goals as goal

pub returns : goal.returns
returns c = values_stand_in_their_line
