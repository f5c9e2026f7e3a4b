use Rattle.bpaf_items.specs.View.{entry_of}
use Rattle.bpaf_items.proofs.Steps.Given.{given_of_type}
use Rattle.bpaf_items.proofs.meta_help.given.HelpItemsIter.over.Goals as goal

pub returns : goal.returns
returns g c = given_of_type entry_of c.args.ty c.args.items.now
