use Rattle.bpaf_doc.proofs.lemmas.Console.Sheet.Whole.{exact_page_is_layout}
use Rattle.bpaf_doc.proofs.laws.laws_of_exact_page.Goals as goal

pub returns : goal.returns
returns c = exact_page_is_layout
