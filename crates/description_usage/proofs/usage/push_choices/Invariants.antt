use Rattle.std.proofs.Common.{◌≡◌, ◌++◌, flat_map, map, take}
use Rattle.page_model.specs.View.{line_of}
use Rattle.description.specs.View.{choice_said}
use Rattle.description_usage.specs.Usage.{choice_items}
use Rattle.description_usage.proofs.usage.push_choices.Given as goal

abbrev pub invariant-loop-choice : goal.invariant-loop-choice
invariant-loop-choice g l = map (λ item. line_of item.items) l.items.items ≡ map (λ item. line_of item.items) l.fn.items.items ++ flat_map choice_items (map choice_said (take l.choice-index l.choices))
