use Rattle.bpaf_items.proofs.Listing.Shown.{key_once}
use Rattle.bpaf_items.proofs.laws.key_once.Goals as goal

pub returns : goal.returns
returns c = key_once
