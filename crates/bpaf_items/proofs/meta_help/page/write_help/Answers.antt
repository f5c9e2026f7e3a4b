use Rattle.std.proofs.Common.{arith}
use Rattle.bpaf_doc.proofs.lemmas.Buffer.Growing.{on_err, settled_nested}
use Rattle.bpaf_items.proofs.Page.NestedPages.{help_pages_keep}
use Rattle.bpaf_items.proofs.meta_help.page.write_help.Goals as goal

pub returns-clause-nested : goal.returns-clause-nested
returns-clause-nested g c = grind (arith, settled_nested, on_err, help_pages_keep)
