use Rattle.description_pages.proofs.LevelsBelow.{each_command_is_there}
use Rattle.description_pages.proofs.laws.each_command_is_there.Goals as goal

pub returns : goal.returns
returns c = each_command_is_there
