use Rattle.description_pages.proofs.Listed.{each_key_is_listed_once}
use Rattle.description_pages.proofs.laws.each_key_is_listed_once.Goals as goal

pub returns : goal.returns
returns c = each_key_is_listed_once
