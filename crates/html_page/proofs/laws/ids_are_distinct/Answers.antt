use Rattle.html_page.proofs.OwnIds as own_ids
use Rattle.html_page.proofs.laws.ids_are_distinct.Goals as goal

pub returns : goal.returns
returns c = own_ids.ids_are_distinct
