use Rattle.std.proofs.Common.{◌++◌, ◌∷◌, [], string_bytes, ap, ◌∙◌, sym, append_assoc}
use Rattle.markdown_page.specs.Exact.{indent}
use Rattle.markdown_page.proofs.Loops.{indent_next}
use Rattle.markdown_page.proofs.block.push_indent.Goals as goal

pub loop-preserved : goal.loop-preserved
loop-preserved g c =
    let old = string_bytes c.args.page.now in
    c.in_ok-push_str.ensures.bytes
    ∙ ap (λ x. x ++ 32 ∷ 32 ∷ []) c.loop.invariant
    ∙ append_assoc old (indent c.loop.counter) (32 ∷ 32 ∷ [])
    ∙ ap (λ x. old ++ x) (sym (indent_next c.loop.counter))
