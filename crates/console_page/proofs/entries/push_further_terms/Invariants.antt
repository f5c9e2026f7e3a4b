use Rattle.std.proofs.Common.{◌≡◌, ◌++◌, map, take, string_bytes}
use Rattle.std.specs.Prelude.{flat_map}
use Rattle.page_model.specs.View.{line_of}
use Rattle.console_page.specs.Entries.{further_term}
use Rattle.console_page.proofs.entries.push_further_terms.Given as goal

abbrev pub invariant-loop-term : goal.invariant-loop-term
invariant-loop-term g l = string_bytes l.out ≡ string_bytes l.initial.out ++ flat_map further_term (map (λ term. line_of term.items) (take l.term-index l.terms))
