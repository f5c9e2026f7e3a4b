use Rattle.bpaf_items.proofs.Words.{map, tree_of, entry_of}
use Rattle.bpaf_items.proofs.Steps.Fronts.{IsItemList-append}
use Rattle.bpaf_items.proofs.meta_help.list.HelpItems.append_meta.Goals as goal

pub invariant_of-self : goal.invariant_of-self
invariant_of-self g c = rw c.in-Ok.ensures.entries (IsItemList-append (map entry_of c.self.inside.items.items) (tree_of c.args.meta.now) c.self.invariant)
