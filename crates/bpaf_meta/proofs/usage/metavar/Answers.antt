use Rattle.bpaf_doc.proofs.lemmas.Buffer.Growing.{on_err, settled_nested}
use Rattle.bpaf_meta.proofs.lemmas.Usage.Nested.{metavar_keeps}
use Rattle.bpaf_meta.proofs.usage.metavar.Goals as goal

pub settle-requires : goal.settle-requires
settle-requires g c = on_err c.put_metavar-written.result (c.args.doc.now, c.checkpoint-before.ensures, c.put_metavar-written.ensures.grows)

pub returns-clause-nested : goal.returns-clause-nested
returns-clause-nested g c = λ nested.
    let write = c.put_metavar-written in
    settled_nested write.result write.new.doc write.ensures.ok (on_err write.result write.ensures.grows) c.checkpoint-before.ensures c.settle.ensures.ok c.settle.ensures.err nested
    (metavar_keeps c.args.name.0.now c.args.doc.now nested)
