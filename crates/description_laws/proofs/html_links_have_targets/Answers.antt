use Rattle.description_laws.proofs.PageLinks.{html_links_have_targets}
use Rattle.description_laws.proofs.html_links_have_targets.Goals as goal

pub returns : goal.returns
returns c = html_links_have_targets
