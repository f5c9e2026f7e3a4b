use Rattle.std.proofs.Common.{◌≡◌, ◌++◌, ◌∷◌, [], codes, drop, flat_map, map}
use Rattle.page_model.specs.View.{form_of}
use Rattle.html_page.specs.Events.{say}
use Rattle.html_page.specs.Page.{form_events}
use Rattle.html_page.specs.Steps.{said}
use Rattle.html_page.proofs.usage.put_further_forms.Given as goal

abbrev pub invariant-loop-form : goal.invariant-loop-form
invariant-loop-form g l = said l.page (flat_map (λ form. say (codes "\n") ∷ [] ++ form_events form) (map form_of (drop l.form-index l.forms))) ≡ said l.fn.page (flat_map (λ form. say (codes "\n") ∷ [] ++ form_events form) (map form_of l.forms))
