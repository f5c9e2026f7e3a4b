use Rattle.std.specs.Prelude.{◌∷◌}
use Rattle.bpaf_doc.proofs.lemmas.Buffer.Words.{[], on_err_weaker, InlineBlock, titled}
use Rattle.bpaf_doc.specs.Buffer.Writes as write
use Rattle.bpaf_doc.proofs.lemmas.Buffer.Growing.{Grows-more, Grows-grown, on_err}
use Rattle.bpaf_doc.proofs.buffer.Doc.write_em_doc.Goals as goal

pub returns-in_err-write_titled-clause-err : goal.returns-in_err-write_titled-clause-err
returns-in_err-write_titled-clause-err g c =
    on_err c.from_residual-in_err-write_titled.result (Grows-grown _ _ _ (write.start InlineBlock ∷ [], c.in_ok-push_empty.ensures.ok) c.in_err-write_titled.ensures.err)

pub returns-clause-err : goal.returns-clause-err
returns-clause-err g c =
    on_err_weaker c.push_empty-2.result
    (λ same. Grows-more _ _ _ [] (Grows-grown _ _ _ (write.start InlineBlock ∷ [], c.in_ok-push_empty.ensures.ok) (titled c.args.other.now, c.in_ok-write_titled.ensures.ok)) same)
    c.push_empty-2.ensures.err
