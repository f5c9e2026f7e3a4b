use Rattle.bpaf_doc.proofs.lemmas.Buffer.Words.{[], refl, take, nothing}
use Rattle.bpaf_doc.proofs.lemmas.Buffer.Nesting.{IsWellNested-pairs}
use Rattle.bpaf_doc.proofs.buffer.Doc.from_pairs.Goals as goal

pub returns-clause-nested : goal.returns-clause-nested
returns-clause-nested g c = rw c.loop-text.invariant (IsWellNested-pairs (take c.loop-text.text-index c.args.pairs.now) [] (nothing refl))
