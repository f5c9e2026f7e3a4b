use Rattle.bpaf_doc.proofs.lemmas.Buffer.Growing.{on_err, settled_nested}
use Rattle.bpaf_meta.specs.View.{leaf_of}
use Rattle.bpaf_meta.proofs.lemmas.Usage.Nested.{item_keeps}
use Rattle.bpaf_meta.proofs.usage.write_item.Goals as goal

pub returns-clause-nested : goal.returns-clause-nested
returns-clause-nested g c = λ docs nested.
    let write = c.put_item-written in
    settled_nested write.result write.new.doc write.ensures.ok (on_err write.result write.ensures.grows) c.checkpoint-before.ensures c.settle.ensures.ok c.settle.ensures.err nested
    (item_keeps (leaf_of c.args.item.now) docs c.args.doc.now nested)
