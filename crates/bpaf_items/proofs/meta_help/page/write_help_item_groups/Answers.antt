use Rattle.bpaf_items.proofs.Words.{map, ap, sym, subst, All, HasPairedGroups, IsItemList, texts_in, groups_writes, HasNestedEntry, entry_of}
use Rattle.bpaf_items.proofs.Listing.TakenOut.{groups_are_taken_out}
use Rattle.bpaf_items.proofs.Page.NestedPages.{groups_are_nested}
use Rattle.bpaf_items.proofs.Page.PageSteps.{nested_after}
use Rattle.bpaf_items.proofs.meta_help.page.write_help_item_groups.Goals as goal

pub put_or_undo-requires : goal.put_or_undo-requires
put_or_undo-requires g c =
    subst (λ items. HasPairedGroups (map entry_of items)) (sym c.items-2.ensures.entries)
    (groups_are_taken_out.paired (map entry_of c.args.items) c.items-2.ensures.listed)

pub returns-clause-nested : goal.returns-clause-nested
returns-clause-nested g c = λ each nested.
    let es = map entry_of c.items-2.result.now in
    let texts = texts_in c.args.texts.now in
    let same = sym (ap (map entry_of) c.items-2.ensures.entries) in
    nested_after c.put_or_undo.result c.args.doc.now c.put_or_undo.new.doc (groups_writes c.args.include_env texts es) c.put_or_undo.ensures.ok c.put_or_undo.ensures.err
    (groups_are_nested c.args.include_env texts es (subst IsItemList same c.items-2.ensures.listed) (subst (All HasNestedEntry) same each)) nested
