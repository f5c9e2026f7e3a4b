use Rattle.std.proofs.Common.{[], ◌∷◌, codes}
use Rattle.bpaf_doc.specs.Buffer.Writes.{plain}
use Rattle.bpaf_meta.proofs.lemmas.Usage.Written.{Grows-then, Grows-call}
use Rattle.bpaf_meta.proofs.usage.put_argument.Goals as goal

pub returns-clause-grows : goal.returns-clause-grows
returns-clause-grows g c =
    let named = c.put_name.new.doc in
    let equals = Grows-call c.text.result named c.text.new.self (plain (codes "=") ∷ []) c.text.ensures.ok c.text.ensures.err in
    Grows-then c.args.doc.now c.text.new.self c.put_metavar.new.doc (Grows-then c.args.doc.now named c.text.new.self c.put_name.ensures.grows equals) c.put_metavar.ensures.grows
