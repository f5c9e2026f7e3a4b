use Rattle.std.proofs.Common.{map, string_bytes}
use Rattle.bpaf_meta.specs.View.{tree_of}
use Rattle.bpaf_help.proofs.Steps.{chapter_put}
use Rattle.bpaf_help.proofs.pages.manual_writes.put_chapter.Goals as goal

pub returns : goal.returns
returns g c =
    chapter_put c.put_within.result c.args.app.now c.args.many (map string_bytes c.args.section.now.path.items) (tree_of c.args.section.now.meta.now) c.args.section.now.info.now
    c.args.doc.now c.put_path_title.new.doc c.put_front.new.doc c.put_list.new.doc c.put_within.new.doc
    (rw c.deref.ensures.value at c.in_ok-put_path_title.ensures) (rw c.deref-2.ensures.value at c.in_ok-put_front.ensures) c.in_ok-put_list.ensures c.put_within.ensures
