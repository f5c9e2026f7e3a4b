use Rattle.bpaf_items.proofs.Page.NestedPages.{item_lists_are_nested, groups_are_nested}
use Rattle.bpaf_items.proofs.laws.groups_are_nested.Goals as goal

pub returns-clause-lists : goal.returns-clause-lists
returns-clause-lists c = item_lists_are_nested

pub returns-clause-groups : goal.returns-clause-groups
returns-clause-groups c = groups_are_nested
