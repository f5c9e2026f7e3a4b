use Rattle.drafts.proofs.Forms.{forms_stand_in_their_line}
use Rattle.drafts.proofs.laws.forms_stand_in_their_line.Goals as goal

pub returns : goal.returns
returns c = forms_stand_in_their_line
