use Rattle.bpaf_items.specs.View.{entry_of}
use Rattle.bpaf_items.proofs.Page.Repeating.{item_goes, other_shown}
use Rattle.bpaf_items.proofs.meta_help.repeats.Repeats.shows.Goals as goal

pub returns-in-Some : goal.returns-in-Some
returns-in-Some g c = λ all before rest split h.
    rw (c.shows_item.ensures.same)
    (item_goes c.shows_item.result all rest c.args.self.now.are_apart c.args.self.now.keys.keys c.shows_item.new.self.keys.keys c.args.self.now.shown c.shows_item.new.self.shown _ (entry_of c.args.entry.now) before
    (rw c.in-Some.is at c.key.ensures) split c.shows_item.ensures.apart c.shows_item.ensures.item h)

pub returns-in-None : goal.returns-in-None
returns-in-None g c = λ all before rest split h.
    rw (c.shows_other.ensures.same)
    (other_shown all c.args.self.now.are_apart c.args.self.now.keys.keys c.shows_other.new.self.keys.keys c.shows_other.result c.args.self.now.shown c.shows_other.new.self.shown c.is_mark.result (entry_of c.args.entry.now) before
    (rw c.in-None.is at c.key.ensures) c.is_mark.ensures c.shows_other.ensures.shown c.shows_other.ensures.last c.shows_other.ensures.keys h)
