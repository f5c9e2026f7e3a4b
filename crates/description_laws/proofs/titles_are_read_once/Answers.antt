use Rattle.description_laws.proofs.ReadOnce.{titles_are_read_once}
use Rattle.description_laws.proofs.titles_are_read_once.Goals as goal

pub returns : goal.returns
returns c = titles_are_read_once
