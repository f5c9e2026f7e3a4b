use Rattle.page_laws.proofs.Laws.{blocks_are_permitted}
use Rattle.page_laws.proofs.blocks_are_permitted.Goals as goal

pub returns : goal.returns
returns c = blocks_are_permitted
