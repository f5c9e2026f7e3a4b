use Rattle.page_laws.proofs.PageLaws.{pages_are_permitted}
use Rattle.page_laws.proofs.pages_are_permitted.Goals as goal

pub returns : goal.returns
returns c = pages_are_permitted
