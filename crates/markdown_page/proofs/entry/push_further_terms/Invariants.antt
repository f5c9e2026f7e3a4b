use Rattle.std.proofs.Common.{◌≡◌, ◌++◌, [], map, take, string_bytes}
use Rattle.std.specs.Prelude.{flat_map}
use Rattle.page_model.specs.View.{line_of}
use Rattle.markdown_page.specs.Exact.{further_span}
use Rattle.markdown_page.proofs.entry.push_further_terms.Given as goal

abbrev pub invariant-loop-term : goal.invariant-loop-term
invariant-loop-term g l = record {
  written : string_bytes l.line.text ≡ string_bytes l.initial.line.text ++ flat_map further_span (map (λ term. line_of term.items) (take l.term-index l.terms));
  left : string_bytes l.line.span ≡ [];
}
