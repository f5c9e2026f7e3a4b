use Rattle.std.specs.Prelude.{◌++◌, ◌∷◌}
use Rattle.bpaf_doc.proofs.lemmas.Buffer.Words.{[], ap, ◌∙◌, on_err_weaker, InlineBlock, start, parts, Start}
use Rattle.bpaf_doc.proofs.lemmas.Buffer.Growing.{on_err}
use Rattle.bpaf_doc.proofs.buffer.Doc.write_doc.Goals as goal

pub returns-in_err-push_parts-clause-err : goal.returns-in_err-push_parts-clause-err
returns-in_err-push_parts-clause-err g c = on_err c.from_residual-in_err-push_parts.result (start InlineBlock ∷ [], c.in_err-push_parts.ensures.err ∙ c.in_ok-push_empty.ensures.ok)

pub returns-clause-err : goal.returns-clause-err
returns-clause-err g c =
    on_err_weaker c.push_empty-2.result
    (λ same. (start InlineBlock ∷ parts c.args.other.now ∷ [], same ∙ c.in_ok-push_parts.ensures.ok ∙ ap (λ ps. ps ++ c.parts.result) c.in_ok-push_empty.ensures.ok ∙ ap (λ ps. (c.args.self.now ++ Start InlineBlock ∷ []) ++ ps) c.parts.ensures.parts))
    c.push_empty-2.ensures.err
