use Rattle.std.proofs.Common.{◌≡◌, ◌++◌, drop, map}
use Rattle.drafts.specs.Usages.{forms}
use Rattle.drafts.specs.View.{form_said, placed_said}
use Rattle.drafts.proofs.usages.forms.Given as goal

abbrev pub invariant-loop-one : goal.invariant-loop-one
invariant-loop-one g l = record {
  so_far : map form_said l.forms.items ++ forms (map placed_said (drop l.one-index l.placed)) ≡ forms (map placed_said l.placed);
}
