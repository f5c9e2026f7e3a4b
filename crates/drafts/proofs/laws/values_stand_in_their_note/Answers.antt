use Rattle.drafts.proofs.Listed.{values_stand_in_their_note}
use Rattle.drafts.proofs.laws.values_stand_in_their_note.Goals as goal

pub returns : goal.returns
returns c = values_stand_in_their_note
