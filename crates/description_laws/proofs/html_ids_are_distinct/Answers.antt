use Rattle.description_laws.proofs.PageIds.{html_ids_are_distinct}
use Rattle.description_laws.proofs.html_ids_are_distinct.Goals as goal

pub returns : goal.returns
returns c = html_ids_are_distinct
