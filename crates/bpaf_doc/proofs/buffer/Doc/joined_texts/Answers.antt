use Rattle.bpaf_doc.proofs.lemmas.Buffer.Words.{rules, string_bytes, subst, HasUtf8Texts}
use Rattle.bpaf_doc.proofs.lemmas.Buffer.Ends.{HasUtf8Texts-parts_from, document_bytes-parts_from}
use Rattle.bpaf_doc.proofs.buffer.Doc.joined_texts.Goals as goal

pub returns-clause-joined : goal.returns-clause-joined
returns-clause-joined g c = search (rules, document_bytes-parts_from)

pub returns-clause-utf8 : goal.returns-clause-utf8
returns-clause-utf8 g c = subst HasUtf8Texts c.self.view_is (HasUtf8Texts-parts_from 0 c.self.inside.ends.items (string_bytes c.self.inside.payload) c.self.invariant)
