use Rattle.std.proofs.Common.{refl}
use Rattle.bpaf_items.proofs.Page.Repeating.{puts_key}
use Rattle.bpaf_items.proofs.meta_help.repeats.Repeats.shows_item.Goals as goal

pub returns-clause-item : goal.returns-clause-item
returns-clause-item g c = λ no hashed. (
  puts_key c.args.self.now.keys.keys c.insert.new.self.keys (c.hash_of.result, c.args.key) c.in_ok-shown.shown c.hash_of.ensures c.in_ok-shown.ensures.added c.in_ok-shown.ensures.keys hashed,
  refl,
)
