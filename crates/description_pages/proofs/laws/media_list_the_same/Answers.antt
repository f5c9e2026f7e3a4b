use Rattle.description_pages.proofs.Media.{media_list_the_same}
use Rattle.description_pages.proofs.laws.media_list_the_same.Goals as goal

pub returns : goal.returns
returns c = media_list_the_same
