use Rattle.std.proofs.Common.{◌≡◌, ◌++◌, ◌∷◌, flat_map, map, take}
use Rattle.page_model.specs.Content.{words}
use Rattle.page_model.specs.View.{line_of}
use Rattle.description_usage.proofs.lines.push_others.Given as goal

abbrev pub invariant-loop-other : goal.invariant-loop-other
invariant-loop-other g l = line_of l.line.items ≡ line_of l.fn.line.items ++ flat_map (λ other. words l.between ∷ other) (map (λ other. line_of other.items) (take l.other-index l.others))
