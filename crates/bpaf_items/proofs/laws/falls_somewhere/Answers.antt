use Rattle.bpaf_items.proofs.Listing.Somewhere.{falls_somewhere}
use Rattle.bpaf_items.proofs.Listing.Numbers.{falls_under_written}
use Rattle.bpaf_items.proofs.laws.falls_somewhere.Goals as goal

pub returns-clause-somewhere : goal.returns-clause-somewhere
returns-clause-somewhere c = falls_somewhere

pub returns-clause-written : goal.returns-clause-written
returns-clause-written c = falls_under_written
