use Rattle.std.specs.Prelude.{◌++◌, ◌≡◌}
use Rattle.bpaf_doc.proofs.lemmas.Buffer.Words.{leading_texts}
use Rattle.bpaf_doc.proofs.buffer.Doc.leading_texts.Given as goal

abbrev pub invariant-loop-part : goal.invariant-loop-part
invariant-loop-part g l = l.line ++ leading_texts l.part-iterator ≡ leading_texts l.fn.self
