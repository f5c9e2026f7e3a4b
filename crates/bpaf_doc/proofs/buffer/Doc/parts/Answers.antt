use Rattle.bpaf_doc.proofs.lemmas.Buffer.Words.{arith, string_bytes, subst, HasUtf8Texts}
use Rattle.bpaf_doc.proofs.lemmas.Buffer.Ends.{HasUtf8Texts-parts_from, length-parts_from}
use Rattle.bpaf_doc.proofs.buffer.Doc.parts.Goals as goal

pub returns-clause-utf8 : goal.returns-clause-utf8
returns-clause-utf8 g c = subst HasUtf8Texts c.self.view_is (HasUtf8Texts-parts_from 0 c.self.inside.ends.items (string_bytes c.self.inside.payload) c.self.invariant)

pub returns-clause-bound : goal.returns-clause-bound
returns-clause-bound g c = grind (arith, length-parts_from)
