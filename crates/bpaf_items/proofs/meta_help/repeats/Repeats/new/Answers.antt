use Rattle.bpaf_items.proofs.Words.{map, entry_at}
use Rattle.bpaf_items.proofs.Page.Repeating.{nothing_seen}
use Rattle.bpaf_items.proofs.meta_help.repeats.Repeats.new.Goals as goal

pub returns : goal.returns
returns g c = nothing_seen (map entry_at c.args.entries.now) c.in_ok-are_apart.field-0 c.in_ok-are_apart.ensures c.new.result.keys c.new.ensures.empty
