use Rattle.description_pages.proofs.Listed.{help_options_are_listed}
use Rattle.description_pages.proofs.laws.help_options_are_listed.Goals as goal

pub returns : goal.returns
returns c = help_options_are_listed
