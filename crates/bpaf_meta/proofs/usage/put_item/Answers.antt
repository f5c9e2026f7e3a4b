use Rattle.std.proofs.Common.{[], ◌∷◌, ap, sym, ◌∙◌, codes}
use Rattle.bpaf_doc.specs.declared.buffer.Style.TheVariants as style
use Rattle.bpaf_doc.specs.Buffer.Writes.{text, with_writes, doc_writes}
use Rattle.bpaf_meta.proofs.lemmas.Usage.Written.{OnOk-map, Grows-call}
use Rattle.bpaf_meta.specs.View.{leaf_of}
use Rattle.bpaf_meta.specs.Usage.Writes.{item_writes}
use Rattle.bpaf_meta.proofs.lemmas.Views.{view-Command}
use Rattle.bpaf_meta.proofs.usage.put_item.Goals as goal

pub returns-in-Any-clause-grows : goal.returns-in-Any-clause-grows
returns-in-Any-clause-grows g c = Grows-call c.doc.result c.args.doc.now c.doc.new.self (doc_writes c.in-Any.metavar) c.doc.ensures.ok c.doc.ensures.err

pub returns-in-Command-clause-ok : goal.returns-in-Command-clause-ok
returns-in-Command-clause-ok g c =
    let seen = ap leaf_of c.in-Command.is ∙ view-Command c.in-Command.name c.in-Command.short c.in-Command.help c.in-Command.meta c.in-Command.info in
    OnOk-map c.write_str.result (λ w. w ∙ ap (λ l. with_writes c.args.doc.now (item_writes l)) (sym seen)) c.write_str.ensures.ok

pub returns-in-Command-clause-grows : goal.returns-in-Command-clause-grows
returns-in-Command-clause-grows g c = Grows-call c.write_str.result c.args.doc.now c.write_str.new.self (text (codes "COMMAND ...") style.Metavar ∷ []) c.write_str.ensures.ok c.write_str.ensures.err
