use Rattle.html_page.proofs.Links as links
use Rattle.html_page.proofs.laws.links_have_targets.Goals as goal

pub returns : goal.returns
returns c = links.links_have_targets
