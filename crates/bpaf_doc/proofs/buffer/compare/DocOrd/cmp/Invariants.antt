use Rattle.std.specs.Prelude.{◌≡◌}
use Rattle.bpaf_doc.proofs.lemmas.Buffer.Words.{document_cmp}
use Rattle.bpaf_doc.proofs.buffer.compare.DocOrd.cmp.Given as goal

abbrev pub invariant-loop-part : goal.invariant-loop-part
invariant-loop-part g l = document_cmp l.part-iterator l.others ≡ document_cmp l.fn.self l.fn.other
