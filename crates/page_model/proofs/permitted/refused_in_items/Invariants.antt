use Rattle.std.proofs.Common.{◌≡◌, None, flat_map, map, take}
use Rattle.page_model.specs.Permitted.{line_texts, refused_in}
use Rattle.page_model.specs.View.{line_of}
use Rattle.page_model.proofs.permitted.refused_in_items.Given as goal

-- what was looked at is permitted
abbrev pub invariant-loop-one : goal.invariant-loop-one
invariant-loop-one g l = refused_in (flat_map (flat_map line_texts) (map (λ item. map (λ line. line_of line.items) item.items) (take l.one-index l.items))) ≡ None
