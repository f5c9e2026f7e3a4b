use Rattle.drafts.proofs.Called.{no_name_is_lost}
use Rattle.drafts.proofs.laws.no_name_is_lost.Goals as goal

pub returns : goal.returns
returns c = no_name_is_lost
