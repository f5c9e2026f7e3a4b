use Rattle.description_laws.proofs.Plain.{texts_are_plain}
use Rattle.description_laws.proofs.texts_are_plain.Goals as goal

pub returns : goal.returns
returns c = texts_are_plain
