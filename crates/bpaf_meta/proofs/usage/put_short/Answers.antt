use Rattle.std.proofs.Common.{[], ◌∷◌, ap, ◌∙◌, codes, encode_utf8}
use Rattle.bpaf_doc.specs.declared.buffer.Style.TheVariants as style
use Rattle.bpaf_doc.specs.Buffer.Writes.{literal, with_text}
use Rattle.bpaf_meta.proofs.lemmas.Usage.Written.{OnOk-map, Grows-then, Grows-call, with_text_twice}
use Rattle.bpaf_meta.proofs.usage.put_short.Goals as goal

pub returns-clause-ok : goal.returns-clause-ok
returns-clause-ok g c = OnOk-map c.write_char.result (λ w. w ∙ ap (λ ps. with_text ps (encode_utf8 c.args.short) style.Literal) c.in_ok-literal.ensures.ok ∙ with_text_twice c.args.doc.now (codes "-") (encode_utf8 c.args.short) style.Literal) c.write_char.ensures.ok

pub returns-clause-grows : goal.returns-clause-grows
returns-clause-grows g c = Grows-then c.args.doc.now c.literal.new.self c.write_char.new.self (Grows-call c.literal.result c.args.doc.now c.literal.new.self (literal (codes "-") ∷ []) c.literal.ensures.ok c.literal.ensures.err) (Grows-call c.write_char.result c.literal.new.self c.write_char.new.self (literal (encode_utf8 c.args.short) ∷ []) c.write_char.ensures.ok c.write_char.ensures.err)
