use Rattle.std.proofs.Common.{◌≡◌, [], ◌∷◌, None, flat_map, map, take}
use Rattle.page_model.specs.Permitted.{piece_text, refused_in}
use Rattle.page_model.specs.View.{piece_of}
use Rattle.page_model.proofs.permitted.refused_in_line.Given as goal

-- what was looked at is permitted
abbrev pub invariant-loop-one : goal.invariant-loop-one
invariant-loop-one l = refused_in (flat_map (λ piece. piece_text piece ∷ []) (map piece_of (take l.one-index l.line))) ≡ None
