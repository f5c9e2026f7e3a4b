use Rattle.bpaf_doc.specs.Buffer.Writes.{doc_writes}
use Rattle.bpaf_items.proofs.Page.Leaving.{leaves_call}
use Rattle.bpaf_items.proofs.meta_help.page.put_usage_text.Goals as goal

pub returns-in-Some : goal.returns-in-Some
returns-in-Some g c = rw c.in-Some.is (leaves_call c.doc.result c.args.doc.now c.doc.new.self (doc_writes c.in-Some.usage) c.doc.ensures.ok c.doc.ensures.err)
