use Rattle.std.specs.Prelude.{◌≡◌}
use Rattle.bpaf_items.proofs.Words.{rules, map, subst, sym, string_bytes, with_writes, head_of, tree_of, Grows-then, Grows-by, HasPairedGroups, texts_in, groups_writes, front_writes, Leaves, entry_of}
use Rattle.bpaf_items.proofs.Listing.TakenOut.{groups_are_taken_out}
use Rattle.bpaf_items.proofs.Page.PageSteps.{footer_is, page_leaves}
use Rattle.bpaf_items.proofs.meta_help.writes.Writer.put_page.Goals as goal

pub put_all-requires : goal.put_all-requires
put_all-requires g c =
    subst (λ items. HasPairedGroups (map entry_of items)) (sym c.items-2.ensures.entries)
    (groups_are_taken_out.paired (map entry_of c.in_ok-items.items) c.items-2.ensures.listed)

pub returns-in_err-put_all : goal.returns-in_err-put_all
returns-in_err-put_all g c =
    let front = front_writes (map string_bytes c.args.path.now) (head_of c.args.info.now) (tree_of c.args.parser.now) in
    (Grows-then _ _ _ (Grows-by _ _ front c.in_ok-put_front.ensures.1) c.put_all.ensures.0, search rules)

pub returns : goal.returns
returns g c =
    let included = c.args.self.now.include_env in
    let texts = texts_in c.args.self.now.texts.now in
    page_leaves c.put_within.result (map string_bytes c.args.path.now) (head_of c.args.info.now) (tree_of c.args.parser.now) (tree_of c.args.help.now) included texts
    (map entry_of c.in_ok-items.items) c.args.doc.now c.put_front.new.doc c.put_all.new.doc c.put_within.new.doc
    c.in_ok-items.ensures c.in_ok-put_front.ensures.1
    (subst (λ items. c.put_all.new.doc ≡ with_writes c.put_front.new.doc (groups_writes included texts (map entry_of items))) c.items-2.ensures.entries c.in_ok-put_all.ensures.1)
    (subst (Leaves c.put_within.result c.put_all.new.doc c.put_within.new.doc) (footer_is c.args.info.now) c.put_within.ensures)
