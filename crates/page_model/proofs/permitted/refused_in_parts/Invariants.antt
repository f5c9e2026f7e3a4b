use Rattle.std.proofs.Common.{◌≡◌, None, flat_map, map, take}
use Rattle.page_model.specs.Permitted.{part_texts, refused_in}
use Rattle.page_model.specs.View.{part_of}
use Rattle.page_model.proofs.permitted.refused_in_parts.Given as goal

-- what was looked at is permitted
abbrev pub invariant-loop-one : goal.invariant-loop-one
invariant-loop-one g l = refused_in (flat_map part_texts (map part_of (take l.one-index l.parts))) ≡ None
