use Rattle.page_laws.proofs.Laws.{usages_are_permitted}
use Rattle.page_laws.proofs.usages_are_permitted.Goals as goal

pub returns : goal.returns
returns c = usages_are_permitted
