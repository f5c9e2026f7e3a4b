use Rattle.std.proofs.Common.{[], ◌∷◌, ap, ◌∙◌, codes}
use Rattle.bpaf_doc.specs.declared.buffer.Style.TheVariants as style
use Rattle.bpaf_doc.specs.Buffer.Writes.{literal, with_text}
use Rattle.bpaf_meta.proofs.lemmas.Usage.Written.{OnOk-map, Grows-then, Grows-call, with_text_twice}
use Rattle.bpaf_meta.proofs.usage.put_long.Goals as goal

pub returns-clause-ok : goal.returns-clause-ok
returns-clause-ok g c = OnOk-map c.literal-2.result (λ w. w ∙ ap (λ ps. with_text ps c.args.long.now style.Literal) c.in_ok-literal.ensures.ok ∙ with_text_twice c.args.doc.now (codes "--") c.args.long.now style.Literal) c.literal-2.ensures.ok

pub returns-clause-grows : goal.returns-clause-grows
returns-clause-grows g c = Grows-then c.args.doc.now c.literal.new.self c.literal-2.new.self (Grows-call c.literal.result c.args.doc.now c.literal.new.self (literal (codes "--") ∷ []) c.literal.ensures.ok c.literal.ensures.err) (Grows-call c.literal-2.result c.literal.new.self c.literal-2.new.self (literal c.args.long.now ∷ []) c.literal-2.ensures.ok c.literal-2.ensures.err)
