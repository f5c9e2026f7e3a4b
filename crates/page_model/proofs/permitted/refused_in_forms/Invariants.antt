use Rattle.std.proofs.Common.{◌≡◌, None, flat_map, map, take}
use Rattle.page_model.specs.Permitted.{form_texts, refused_in}
use Rattle.page_model.specs.View.{form_of}
use Rattle.page_model.proofs.permitted.refused_in_forms.Given as goal

-- what was looked at is permitted
abbrev pub invariant-loop-one : goal.invariant-loop-one
invariant-loop-one g l = refused_in (flat_map form_texts (map form_of (take l.one-index l.forms))) ≡ None
