use Rattle.std.proofs.Common.{◌≡◌, ◌++◌, ◌∷◌, [], codes, drop, flat_map, map}
use Rattle.page_model.specs.View.{line_of}
use Rattle.html_page.specs.Events.{say}
use Rattle.html_page.specs.Page.{line_events}
use Rattle.html_page.specs.Steps.{said}
use Rattle.html_page.proofs.lines.put_further_terms.Given as goal

abbrev pub invariant-loop-term : goal.invariant-loop-term
invariant-loop-term g l = said l.page (flat_map (λ term. say (codes ", ") ∷ [] ++ line_events term) (map (λ term. line_of term.items) (drop l.term-index l.terms))) ≡ said l.fn.page (flat_map (λ term. say (codes ", ") ∷ [] ++ line_events term) (map (λ term. line_of term.items) l.terms))
