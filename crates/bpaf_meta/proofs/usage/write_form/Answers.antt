use Rattle.bpaf_doc.proofs.lemmas.Buffer.Growing.{on_err, settled_nested}
use Rattle.bpaf_meta.specs.Meta.Steps.Forms.{form_of}
use Rattle.bpaf_meta.proofs.lemmas.Usage.Nested.{form_keeps}
use Rattle.bpaf_meta.proofs.usage.write_form.Goals as goal

pub returns-clause-nested : goal.returns-clause-nested
returns-clause-nested g c = λ docs nested.
    let write = c.put_usage-written in
    settled_nested write.result write.new.doc write.ensures.ok (on_err write.result write.ensures.grows) c.checkpoint-before.ensures c.settle.ensures.ok c.settle.ensures.err nested
    (form_keeps (form_of c.args.form.now) docs c.args.doc.now nested)
