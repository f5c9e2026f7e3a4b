use Rattle.std.proofs.Common.{[], ◌∷◌}
use Rattle.bpaf_doc.specs.declared.buffer.Block.TheVariants.{Mono}
use Rattle.bpaf_doc.specs.Buffer.Writes.{start, end}
use Rattle.bpaf_meta.proofs.lemmas.Usage.Written.{Grows-then, Grows-call}
use Rattle.bpaf_meta.proofs.usage.put_usage.Goals as goal

pub returns-in_err-put_tree-clause-grows : goal.returns-in_err-put_tree-clause-grows
returns-in_err-put_tree-clause-grows g c = Grows-then c.args.doc.now c.token.new.self c.put_tree.new.doc (Grows-call c.token.result c.args.doc.now c.token.new.self (start Mono ∷ []) c.token.ensures.ok c.token.ensures.err) c.put_tree.ensures.grows

pub returns-clause-grows : goal.returns-clause-grows
returns-clause-grows g c =
    let opened = Grows-call c.token.result c.args.doc.now c.token.new.self (start Mono ∷ []) c.token.ensures.ok c.token.ensures.err in
    let closed = Grows-call c.token-2.result c.put_tree.new.doc c.token-2.new.self (end Mono ∷ []) c.token-2.ensures.ok c.token-2.ensures.err in
    Grows-then c.args.doc.now c.put_tree.new.doc c.token-2.new.self (Grows-then c.args.doc.now c.token.new.self c.put_tree.new.doc opened c.put_tree.ensures.grows) closed
