use Rattle.std.proofs.Common.{◌≡◌, ◌++◌, drop, map}
use Rattle.drafts.specs.Strays.{options_in}
use Rattle.drafts.specs.View.{form_said, held, stray_said}
use Rattle.drafts.proofs.strays.options_in.Given as goal

abbrev pub invariant-loop-form : goal.invariant-loop-form
invariant-loop-form g l = record {
  so_far : map stray_said l.strays.items ++ options_in (held l.taken) (map form_said (drop l.form-index l.forms)) ≡ options_in (held l.taken) (map form_said l.forms);
}
