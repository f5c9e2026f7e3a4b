use Rattle.std.specs.Prelude.{◌≡◌}
use Rattle.bpaf_doc.proofs.lemmas.Buffer.Words.{same_document}
use Rattle.bpaf_doc.proofs.buffer.compare.DocPartialEq.eq.Given as goal

abbrev pub invariant-loop-part : goal.invariant-loop-part
invariant-loop-part g l = same_document l.part-iterator l.others ≡ same_document l.fn.self l.fn.other
