use Rattle.bpaf_items.proofs.Words.{map, refl, sym, ◌∙◌, texts_in, entry_at}
use Rattle.bpaf_items.proofs.Page.GroupSteps.{takes_item, takes_marked}
use Rattle.bpaf_items.proofs.meta_help.writes.Writer.put_first.Goals as goal

pub returns-then-not-is_group_start-clause-takes : goal.returns-then-not-is_group_start-clause-takes
returns-then-not-is_group_start-clause-takes g c =
    takes_item c.args.self.now.include_env (texts_in c.args.self.now.texts.now) c.args.rest.now c.index-rest-0.result _ c.args.doc.now c.args.outside.now.items c.push.new.self.items
    c.requires.paired c.requires.some c.index-rest-0.is (sym c.is_group_start.ensures ∙ c.if-not-is_group_start.true) refl c.in_ok-push.ensures.items

pub returns-clause-takes : goal.returns-clause-takes
returns-clause-takes g c =
    takes_marked c.args.self.now.include_env (texts_in c.args.self.now.texts.now) c.args.rest.now c.front.result.now c.index-rest-0.result c.group_len-count.result c.args.doc.now c.put_group.new.doc (map entry_at c.args.outside.now.items)
    c.requires.paired c.requires.some c.index-rest-0.is (sym c.is_group_start.ensures ∙ c.if-not-is_group_start.false) c.group_len-count.ensures.len c.front.ensures c.in_ok-put_group.ensures.1
