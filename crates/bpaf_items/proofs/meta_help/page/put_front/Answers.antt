use Rattle.bpaf_items.proofs.Words.{map, rules, subst, string_bytes, inside, tree_of, Grows-then, Grows-by, doc_within, usage_line_writes, Leaves}
use Rattle.bpaf_doc.specs.declared.buffer.Block.TheVariants as block
use Rattle.bpaf_items.proofs.Page.Leaving.{leaves_third}
use Rattle.bpaf_items.proofs.Page.PageSteps.{front_is}
use Rattle.bpaf_items.proofs.meta_help.page.put_front.Goals as goal

pub returns-in_err-put_usage : goal.returns-in_err-put_usage
returns-in_err-put_usage g c = (Grows-then _ _ _ (Grows-by _ _ (doc_within block.Block c.args.info.now.descr) c.in_ok-put_within.ensures.1) c.put_usage.ensures.0, search rules)

pub returns : goal.returns
returns g c =
    let path = map string_bytes c.args.path.now in
    let i = c.args.info.now in
    let t = tree_of c.args.parser.now in
    subst (Leaves c.put_within-2.result c.args.doc.now c.put_within-2.new.doc) (front_is path i t)
    (leaves_third c.put_within-2.result c.args.doc.now c.put_within.new.doc c.put_usage.new.doc c.put_within-2.new.doc
    (doc_within block.Block i.descr) (inside block.Block (usage_line_writes path i.usage t)) (doc_within block.Block i.header) c.in_ok-put_within.ensures.1 c.in_ok-put_usage.ensures.1 c.put_within-2.ensures)
