use Rattle.std.specs.Prelude.{◌++◌, ◌<◌}
use Rattle.bpaf_items.proofs.Words.{length, map, rules, subst, Grows-then, Grows-by, texts_in, list_writes, heading_end, title_front, Leaves, entry_at}
use Rattle.bpaf_items.proofs.Page.GroupSteps.{heading_is}
use Rattle.bpaf_items.proofs.Page.Leaving.{leaves_then}
use Rattle.bpaf_items.proofs.meta_help.writes.Writer.put_titled.Goals as goal

pub returns-in_err-put_list : goal.returns-in_err-put_list
returns-in_err-put_list g c = (Grows-then _ _ _ (Grows-by _ _ (title_front c.args.title.now) c.in_ok-put_list_start.ensures.1) c.put_list.ensures.0, search rules)

pub returns : goal.returns
returns g c =
    let some : 0 < length c.args.entries.now = search rules in
    let held = list_writes c.args.self.now.include_env (texts_in c.args.self.now.texts.now) (map entry_at c.args.entries.now) in
    subst (Leaves c.put_list_end.result c.args.doc.now c.put_list_end.new.doc) (heading_is c.args.self.now.include_env (texts_in c.args.self.now.texts.now) c.args.title.now c.args.entries.now some)
    (leaves_then _ _ _ _ (title_front c.args.title.now) (held ++ heading_end) c.in_ok-put_list_start.ensures.1 (leaves_then _ _ _ _ held heading_end c.in_ok-put_list.ensures.1 c.put_list_end.ensures))
