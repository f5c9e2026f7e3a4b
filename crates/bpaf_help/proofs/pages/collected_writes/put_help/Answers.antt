use Rattle.std.proofs.Common.{map, string_bytes}
use Rattle.bpaf_meta.specs.View.{tree_of}
use Rattle.bpaf_items.specs.Page.EnvTexts.{texts_in}
use Rattle.bpaf_help.proofs.Steps.{page_put}
use Rattle.bpaf_help.proofs.pages.collected_writes.put_help.Goals as goal

pub returns : goal.returns
returns g c =
    page_put c.token-2.result (map string_bytes c.args.section.now.path.items) c.args.section.now.info.now (tree_of c.args.section.now.meta.now) (texts_in c.new-texts.result)
    c.args.doc.now c.token.new.self c.write_help.new.doc c.token-2.new.self
    c.in_ok-token.ensures.ok (rw c.deref.ensures.value at c.in_ok-write_help.ensures.ok) c.token-2.ensures.ok
