use Rattle.bpaf_doc.proofs.lemmas.Splitter.Facts.{spelled_once}
use Rattle.bpaf_doc.proofs.laws.one_spelling.Goals as goal

pub returns : goal.returns
returns c = spelled_once
