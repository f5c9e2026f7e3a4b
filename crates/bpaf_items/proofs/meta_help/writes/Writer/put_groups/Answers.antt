use Rattle.std.specs.Prelude.{◌++◌}
use Rattle.bpaf_items.proofs.Words.{map, ap, sym, ◌∙◌, subst, with_writes, Grows-then, outside_groups, HasPairedGroups, texts_in, group_members_writes, entry_at}
use Rattle.bpaf_items.proofs.Page.GroupSteps.{left_after}
use Rattle.bpaf_items.proofs.meta_help.writes.Writer.put_groups.Goals as goal

pub returns-in_err-count-clause-grows : goal.returns-in_err-count-clause-grows
returns-in_err-count-clause-grows g c = Grows-then _ _ _ c.loop-rest.invariant.grows c.put_first.ensures.grows

pub loop-rest-preserved : goal.loop-rest-preserved
loop-rest-preserved g c =
    let taken = c.in_ok-count.ensures.takes in
    let same = left_after c.loop-rest.rest.now c.without_front-rest.result.now c.in_ok-count.count c.without_front-rest.ensures in
    record {
      paired = subst HasPairedGroups (sym same) taken.paired;
      grows = Grows-then _ _ _ c.loop-rest.invariant.grows c.put_first.ensures.grows;
      written = ap (λ es. with_writes c.put_first.new.doc (group_members_writes c.args.self.now.include_env (texts_in c.args.self.now.texts.now) es)) same ∙ taken.written ∙ c.loop-rest.invariant.written;
      others = ap (λ es. map entry_at c.put_first.new.outside.items ++ outside_groups es) same ∙ taken.others ∙ c.loop-rest.invariant.others;
    }
