use Rattle.description_laws.proofs.Written.{pages_are_written}
use Rattle.description_laws.proofs.pages_are_written.Goals as goal

pub returns : goal.returns
returns c = pages_are_written
