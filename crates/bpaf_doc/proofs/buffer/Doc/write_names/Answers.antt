use Rattle.std.specs.Prelude.{◌∷◌}
use Rattle.bpaf_doc.proofs.lemmas.Buffer.Words.{[], map, take, ◌∙◌, string_bytes, literal, path_writes}
use Rattle.bpaf_doc.proofs.lemmas.Buffer.Growing.{Grows-more, on_err}
use Rattle.bpaf_doc.proofs.buffer.Doc.write_names.Goals as goal

pub returns-in_err-text-clause-err : goal.returns-in_err-text-clause-err
returns-in_err-text-clause-err g c =
    on_err c.from_residual-in_err-text.result
    (Grows-more c.args.self.now c.loop-name.self c.text.new.self (literal c.as_str.result.now ∷ [])
    (path_writes (map string_bytes (take c.loop-name.name-index c.args.path.now)), c.loop-name.invariant)
    (c.in_err-text.ensures.err ∙ c.in_ok-literal.ensures.ok))
