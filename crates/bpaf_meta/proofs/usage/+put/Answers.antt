use Rattle.std.proofs.Common.{List, [], ◌∷◌, ◌+◌, drop, ap, sym, ◌∙◌, arith, codes}
use Rattle.std.proofs.lemmas.List.{at_drop_more}
use Rattle.bpaf_doc.specs.Buffer.Writes.{plain, literal, with_writes, doc_writes}
use Rattle.bpaf_meta.specs.Meta.Steps.Forms.{form_of, forms_of}
use Rattle.bpaf_meta.specs.declared.meta.form.Form.{Form}
use Rattle.bpaf_meta.specs.Usage.Writes.{tree_writes, part_writes}
use Rattle.bpaf_meta.proofs.lemmas.Usage.Written.{OnOk-map, Grows-then, Grows-call, with_writes-append, rest_of_line, written_turn}
use Rattle.bpaf_meta.proofs.lemmas.Views.{form-Many}
use Rattle.bpaf_meta.proofs.usage.+put.Goals as goal

pub put_between-returns-in_err-put_tree-clause-grows : goal.put_between-returns-in_err-put_tree-clause-grows
put_between-returns-in_err-put_tree-clause-grows g t c = Grows-then c.args.doc.now c.text.new.self c.put_tree.new.doc (Grows-call c.text.result c.args.doc.now c.text.new.self (plain c.args.opening.now ∷ []) c.text.ensures.ok c.text.ensures.err) c.put_tree.ensures.grows

pub put_between-returns-clause-grows : goal.put_between-returns-clause-grows
put_between-returns-clause-grows g t c =
    let opened = Grows-call c.text.result c.args.doc.now c.text.new.self (plain c.args.opening.now ∷ []) c.text.ensures.ok c.text.ensures.err in
    let closed = Grows-call c.text-2.result c.put_tree.new.doc c.text-2.new.self (plain c.args.closing.now ∷ []) c.text-2.ensures.ok c.text-2.ensures.err in
    Grows-then c.args.doc.now c.put_tree.new.doc c.text-2.new.self (Grows-then c.args.doc.now c.text.new.self c.put_tree.new.doc opened c.put_tree.ensures.grows) closed

pub put_parts-returns-in_err-put_separator-clause-grows : goal.put_parts-returns-in_err-put_separator-clause-grows
put_parts-returns-in_err-put_separator-clause-grows g t c = Grows-then c.args.doc.now c.loop-part.doc c.put_separator.new.doc c.loop-part.invariant.grows c.put_separator.ensures.grows

pub put_parts-returns-in_err-put_tree-clause-grows : goal.put_parts-returns-in_err-put_tree-clause-grows
put_parts-returns-in_err-put_tree-clause-grows g t c = Grows-then c.args.doc.now c.put_separator.new.doc c.put_tree.new.doc (Grows-then c.args.doc.now c.loop-part.doc c.put_separator.new.doc c.loop-part.invariant.grows c.put_separator.ensures.grows) c.put_tree.ensures.grows

pub put_parts-loop-part-preserved : goal.put_parts-loop-part-preserved
put_parts-loop-part-preserved g t c =
    let items = c.deref-part-items.result.now in
    let i = c.loop-part.part-index in
    let bytes = c.args.between.now in
    let first = c.loop-part.is_first in
    let before = c.loop-part.doc in
    let e = at_drop_more (λ (ms : List (Form g.row.B.Denot)). with_writes before (rest_of_line first bytes (part_writes (forms_of ms)))) items i c.part-item.result (omega arith) in
    record {
      written = written_turn first bytes (tree_writes (form_of c.part-item.result)) (part_writes (forms_of (drop (i + 1) items))) (part_writes (forms_of c.args.parts.now.items)) c.args.doc.now before c.put_separator.new.doc c.put_tree.new.doc c.in_ok-put_separator.ensures.ok (cc (c.in_ok-put_tree.ensures.ok, c.part-item.is)) (cc (e, c.part-item.is, c.loop-part.invariant.written));
      grows = Grows-then c.args.doc.now c.put_separator.new.doc c.put_tree.new.doc (Grows-then c.args.doc.now before c.put_separator.new.doc c.loop-part.invariant.grows c.put_separator.ensures.grows) c.put_tree.ensures.grows;
    }

pub put_tree-returns-in_err-text-in-Strict-clause-grows : goal.put_tree-returns-in_err-text-in-Strict-clause-grows
put_tree-returns-in_err-text-in-Strict-clause-grows g t c =
    let dashes = Grows-call c.literal.result c.args.doc.now c.literal.new.self (literal (codes "--") ∷ []) c.literal.ensures.ok c.literal.ensures.err in
    let blank = Grows-call c.text-in-Strict.result c.literal.new.self c.text-in-Strict.new.self (plain (codes " ") ∷ []) c.text-in-Strict.ensures.ok c.text-in-Strict.ensures.err in
    Grows-then c.args.doc.now c.literal.new.self c.text-in-Strict.new.self dashes blank

pub put_tree-returns-in_ok-text-in-Strict-clause-grows : goal.put_tree-returns-in_ok-text-in-Strict-clause-grows
put_tree-returns-in_ok-text-in-Strict-clause-grows g t c =
    let dashes = Grows-call c.literal.result c.args.doc.now c.literal.new.self (literal (codes "--") ∷ []) c.literal.ensures.ok c.literal.ensures.err in
    let blank = Grows-call c.text-in-Strict.result c.literal.new.self c.text-in-Strict.new.self (plain (codes " ") ∷ []) c.text-in-Strict.ensures.ok c.text-in-Strict.ensures.err in
    Grows-then c.args.doc.now c.text-in-Strict.new.self c.put_tree-in-Strict.new.doc (Grows-then c.args.doc.now c.literal.new.self c.text-in-Strict.new.self dashes blank) c.put_tree-in-Strict.ensures.grows

pub put_tree-returns-in_ok-put_tree-in-Many-clause-ok : goal.put_tree-returns-in_ok-put_tree-in-Many-clause-ok
put_tree-returns-in_ok-put_tree-in-Many-clause-ok g t c =
    let old = c.args.doc.now in
    let inner = c.in-Many.inner in
    let dots = plain (codes "...") ∷ [] in
    let seen = ap form_of c.in-Many.is ∙ form-Many inner in
    let repeated = c.in_ok-put_tree-in-Many.ensures.ok ∙ ap (λ m. with_writes old (tree_writes (form_of m))) c.deref.ensures in
    OnOk-map c.text.result (λ w. w ∙ ap (λ ps. with_writes ps dots) repeated ∙ sym (with_writes-append old (tree_writes (form_of inner.value)) dots) ∙ ap (λ v. with_writes old (tree_writes v)) (sym seen)) c.text.ensures.ok

pub put_tree-returns-in_ok-put_tree-in-Many-clause-grows : goal.put_tree-returns-in_ok-put_tree-in-Many-clause-grows
put_tree-returns-in_ok-put_tree-in-Many-clause-grows g t c = Grows-then c.args.doc.now c.put_tree.new.doc c.text.new.self c.put_tree.ensures.grows (Grows-call c.text.result c.put_tree.new.doc c.text.new.self (plain (codes "...") ∷ []) c.text.ensures.ok c.text.ensures.err)

pub put_tree-returns-in-CustomUsage-clause-grows : goal.put_tree-returns-in-CustomUsage-clause-grows
put_tree-returns-in-CustomUsage-clause-grows g t c = Grows-call c.doc.result c.args.doc.now c.doc.new.self (doc_writes c.in-CustomUsage.usage.now) c.doc.ensures.ok c.doc.ensures.err
