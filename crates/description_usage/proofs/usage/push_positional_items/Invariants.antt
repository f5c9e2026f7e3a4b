use Rattle.std.proofs.Common.{◌≡◌, ◌++◌, [], drop, map, take}
use Rattle.std.specs.List.{list_any}
use Rattle.page_model.specs.View.{line_of}
use Rattle.description.specs.View.{positional_said}
use Rattle.description_usage.specs.Usage.{positionals_after}
use Rattle.description_usage.proofs.usage.push_positional_items.Given as goal

abbrev pub invariant-loop-positional : goal.invariant-loop-positional
invariant-loop-positional g l = record {
  strict : l.has_strict ≡ list_any (λ p. p.strict) (map positional_said (take l.positional-index l.positionals));
  put : map (λ item. line_of item.items) l.items.items ++ positionals_after (map positional_said (take l.positional-index l.positionals)) (map positional_said (drop l.positional-index l.positionals)) ≡ map (λ item. line_of item.items) l.fn.items.items ++ positionals_after [] (map positional_said l.positionals);
}
