use Rattle.bpaf_doc.specs.Buffer.Parts.{nothing}
use Rattle.bpaf_items.proofs.meta_help.page.render_help.Goals as goal

pub returns-in-Ok-clause-nested : goal.returns-in-Ok-clause-nested
returns-in-Ok-clause-nested g c = λ texts own others. c.write_help.ensures.nested texts own others (nothing c.new-page.ensures)
