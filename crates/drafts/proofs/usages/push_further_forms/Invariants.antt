use Rattle.std.proofs.Common.{◌≡◌, ◌++◌, drop, map}
use Rattle.std.specs.Prelude.{filter}
use Rattle.drafts.specs.Usages.{further_form, is_inked}
use Rattle.drafts.specs.View.{form_said}
use Rattle.drafts.proofs.usages.push_further_forms.Given as goal

abbrev pub invariant-loop-line : goal.invariant-loop-line
invariant-loop-line g l = record {
  so_far : map form_said l.forms.items ++ filter is_inked (map further_form (map (λ line. line.now) (drop l.line-index l.lines))) ≡ map form_said l.initial.forms.items ++ filter is_inked (map further_form (map (λ line. line.now) l.lines));
}
