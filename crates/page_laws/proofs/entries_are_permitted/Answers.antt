use Rattle.page_laws.proofs.Laws.{entries_are_permitted}
use Rattle.page_laws.proofs.entries_are_permitted.Goals as goal

pub returns : goal.returns
returns c = entries_are_permitted
