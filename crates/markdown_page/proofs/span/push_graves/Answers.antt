use Rattle.std.proofs.Common.{◌++◌, ◌∷◌, [], suc, string_bytes, ap, ◌∙◌, sym, append_assoc}
use Rattle.markdown_page.specs.Bytes.{graves}
use Rattle.markdown_page.proofs.Loops.{more_graves}
use Rattle.markdown_page.proofs.span.push_graves.Goals as goal

pub loop-preserved : goal.loop-preserved
loop-preserved g c =
    let old = string_bytes c.args.out.now in
    c.in_ok-push_str-2.ensures.bytes
    ∙ ap (λ x. x ++ 96 ∷ []) c.loop.invariant
    ∙ append_assoc old (graves (suc c.loop.counter)) (96 ∷ [])
    ∙ ap (λ x. old ++ x) (sym (more_graves c.loop.counter))
