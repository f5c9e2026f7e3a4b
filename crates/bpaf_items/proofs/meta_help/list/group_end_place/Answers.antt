use Rattle.bpaf_items.proofs.Words.{◌∙◌, rules, YieldsList-from_slice, position_from_yields_List, tests, is_group_end, entry_of}
use Rattle.bpaf_items.proofs.Steps.Given.{position-map}
use Rattle.bpaf_items.proofs.meta_help.list.group_end_place.Goals as goal

pub returns : goal.returns
returns g c = position_from_yields_List (λ x. is_group_end (entry_of x)) _ _ c.position.result c.position.ensures.ran (YieldsList-from_slice c.args.items.now c.iter.ensures.rest) (λ x b q k. search (rules, tests)) ∙ position-map is_group_end entry_of c.args.items.now
