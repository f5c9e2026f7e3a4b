use Rattle.std.proofs.Common.{◌≡◌, [], ◌∷◌, None, flat_map, map, take}
use Rattle.page_model.specs.Permitted.{refused_in}
use Rattle.page_model.proofs.permitted.refused_in_texts.Given as goal

-- what was looked at is permitted
abbrev pub invariant-loop-one : goal.invariant-loop-one
invariant-loop-one l = refused_in (flat_map (λ text. text ∷ []) (map (λ text. text.now) (take l.one-index l.texts))) ≡ None
