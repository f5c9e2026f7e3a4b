use Rattle.bpaf_items.proofs.Listing.TakenOut.{groups_are_taken_out}
use Rattle.bpaf_items.proofs.laws.groups_are_taken_out.Goals as goal

pub returns : goal.returns
returns c = groups_are_taken_out
