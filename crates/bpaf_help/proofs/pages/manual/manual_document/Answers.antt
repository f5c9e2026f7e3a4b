use Rattle.std.proofs.Common.{◌∙◌, ap, sym, length, map, nat_lt}
use Rattle.std.proofs.lemmas.List.{length-map}
use Rattle.bpaf_meta.specs.View.{head_of, tree_of}
use Rattle.bpaf_help.specs.View.{chapter_of}
use Rattle.bpaf_help.proofs.Steps.{manual_whole}
use Rattle.bpaf_help.proofs.pages.manual.manual_document.Goals as goal

pub returns : goal.returns
returns g c =
    let sections = c.in_ok-sections.sections.items in
    manual_whole c.args.app.now (tree_of c.args.meta.now) (head_of c.args.info.now) (map chapter_of sections) (nat_lt 1 c.len.result) c.new-document.result c.put_synopsis.new.doc c.put_chapters.new.doc c.new-document.ensures c.in_ok-sections.ensures
    (ap (nat_lt 1) (c.len.ensures ∙ sym c.deref-2.ensures.len ∙ ap length c.deref-2.ensures.value ∙ sym (length-map sections chapter_of)))
    (rw c.deref.ensures.value at c.in_ok-put_synopsis.ensures) (rw c.deref-2.ensures.value at c.in_ok-put_chapters.ensures)
