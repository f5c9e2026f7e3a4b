use Rattle.std.proofs.Common.{[], ◌∷◌}
use Rattle.bpaf_doc.specs.Buffer.Writes.{plain}
use Rattle.bpaf_meta.proofs.lemmas.Usage.Written.{Grows-call}
use Rattle.bpaf_meta.proofs.usage.put_separator.Goals as goal

pub returns-else-is_first-clause-grows : goal.returns-else-is_first-clause-grows
returns-else-is_first-clause-grows g c = Grows-call c.text.result c.args.doc.now c.text.new.self (plain c.args.between.now ∷ []) c.text.ensures.ok c.text.ensures.err
