use Rattle.std.proofs.Common.{[], ◌∷◌, codes}
use Rattle.bpaf_doc.specs.declared.buffer.Style.TheVariants as style
use Rattle.bpaf_doc.specs.Buffer.Writes.{text}
use Rattle.bpaf_meta.proofs.lemmas.Usage.Written.{Grows-then, Grows-call}
use Rattle.bpaf_meta.proofs.usage.put_metavar.Goals as goal

pub returns-then-is_bare-clause-grows : goal.returns-then-is_bare-clause-grows
returns-then-is_bare-clause-grows g c = Grows-call c.write_str.result c.args.doc.now c.write_str.new.self (text c.args.name.now style.Metavar ∷ []) c.write_str.ensures.ok c.write_str.ensures.err

pub returns-in_err-write_str-2-clause-grows : goal.returns-in_err-write_str-2-clause-grows
returns-in_err-write_str-2-clause-grows g c = Grows-then c.args.doc.now c.write_str-2.new.self c.write_str-3.new.self (Grows-call c.write_str-2.result c.args.doc.now c.write_str-2.new.self (text (codes "<") style.Metavar ∷ []) c.write_str-2.ensures.ok c.write_str-2.ensures.err) (Grows-call c.write_str-3.result c.write_str-2.new.self c.write_str-3.new.self (text c.args.name.now style.Metavar ∷ []) c.write_str-3.ensures.ok c.write_str-3.ensures.err)

pub returns-clause-grows : goal.returns-clause-grows
returns-clause-grows g c =
    let first = Grows-call c.write_str-2.result c.args.doc.now c.write_str-2.new.self (text (codes "<") style.Metavar ∷ []) c.write_str-2.ensures.ok c.write_str-2.ensures.err in
    let second = Grows-call c.write_str-3.result c.write_str-2.new.self c.write_str-3.new.self (text c.args.name.now style.Metavar ∷ []) c.write_str-3.ensures.ok c.write_str-3.ensures.err in
    let third = Grows-call c.write_str-4.result c.write_str-3.new.self c.write_str-4.new.self (text (codes ">") style.Metavar ∷ []) c.write_str-4.ensures.ok c.write_str-4.ensures.err in
    Grows-then c.args.doc.now c.write_str-3.new.self c.write_str-4.new.self (Grows-then c.args.doc.now c.write_str-2.new.self c.write_str-3.new.self first second) third
