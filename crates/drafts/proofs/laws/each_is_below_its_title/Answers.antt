use Rattle.drafts.proofs.Roles.{each_is_below_its_title}
use Rattle.drafts.proofs.laws.each_is_below_its_title.Goals as goal

pub returns : goal.returns
returns c = each_is_below_its_title
