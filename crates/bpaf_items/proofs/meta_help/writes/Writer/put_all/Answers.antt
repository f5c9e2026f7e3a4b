use Rattle.std.specs.Prelude.{◌++◌}
use Rattle.bpaf_items.proofs.Words.{map, ap, ◌∙◌, subst, outside_groups, texts_in, group_members_writes, three_headings_writes, items_of_type, Leaves, entry_at, entry_of}
use Rattle.bpaf_items.proofs.Page.GroupSteps.{all_writes}
use Rattle.bpaf_items.proofs.Page.Leaving.{leaves_then}
use Rattle.bpaf_items.proofs.meta_help.writes.Writer.put_all.Goals as goal

pub returns : goal.returns
returns g c =
    let es = map entry_of c.args.entries.now in
    let texts = texts_in c.args.self.now.texts.now in
    let others = ap (map entry_at) c.as_slice.ensures.value ∙ c.in_ok-put_groups.ensures.outside ∙ ap (λ xs. map entry_at xs ++ outside_groups es) c.new-outside.ensures.items in
    subst (Leaves c.put_headings.result c.args.doc.now c.put_headings.new.doc) (all_writes c.args.self.now.include_env texts es)
    (leaves_then _ _ _ _ (group_members_writes c.args.self.now.include_env texts es) (three_headings_writes c.args.self.now.include_env texts (items_of_type (outside_groups es))) c.in_ok-put_groups.ensures.groups
    (subst (λ fs. Leaves c.put_headings.result c.put_groups.new.doc c.put_headings.new.doc (three_headings_writes c.args.self.now.include_env texts (items_of_type fs))) others c.put_headings.ensures))
