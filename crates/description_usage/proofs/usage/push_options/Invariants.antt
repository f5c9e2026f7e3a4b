use Rattle.std.proofs.Common.{◌≡◌, ◌++◌, flat_map, map, take}
use Rattle.page_model.specs.View.{line_of}
use Rattle.description.specs.View.{opt_said}
use Rattle.description_usage.specs.Usage.{option_items}
use Rattle.description_usage.proofs.usage.push_options.Given as goal

abbrev pub invariant-loop-option : goal.invariant-loop-option
invariant-loop-option g l = map (λ item. line_of item.items) l.items.items ≡ map (λ item. line_of item.items) l.fn.items.items ++ flat_map option_items (map opt_said (take l.option-index l.options))
