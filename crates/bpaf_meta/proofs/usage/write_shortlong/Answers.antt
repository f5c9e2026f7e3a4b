use Rattle.bpaf_doc.proofs.lemmas.Buffer.Growing.{on_err, settled_nested}
use Rattle.bpaf_meta.specs.View.{name_of}
use Rattle.bpaf_meta.proofs.lemmas.Usage.Nested.{name_keeps}
use Rattle.bpaf_meta.proofs.usage.write_shortlong.Goals as goal

pub returns-clause-nested : goal.returns-clause-nested
returns-clause-nested g c = λ nested.
    let write = c.put_name-written in
    settled_nested write.result write.new.doc write.ensures.ok (on_err write.result write.ensures.grows) c.checkpoint-before.ensures c.settle.ensures.ok c.settle.ensures.err nested
    (name_keeps (name_of c.args.name.now) c.args.doc.now nested)
