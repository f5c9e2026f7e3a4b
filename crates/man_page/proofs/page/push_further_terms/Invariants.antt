use Rattle.std.proofs.Common.{◌≡◌, ◌++◌, map, take, string_bytes}
use Rattle.std.specs.Prelude.{flat_map}
use Rattle.page_model.specs.View.{line_of}
use Rattle.man_page.specs.Steps.{further_term}
use Rattle.man_page.proofs.page.push_further_terms.Given as goal

abbrev pub invariant-loop-term : goal.invariant-loop-term
invariant-loop-term g l = string_bytes l.line ≡ string_bytes l.initial.line ++ flat_map (further_term l.section) (map (λ term. line_of term.items) (take l.term-index l.terms))
