use Rattle.std.proofs.Common.{◌≡◌, ◌++◌, length, map}
use denote.Text.{Utf8}
use denote.Shadow.{shadow}
use Rattle.page_model.specs.View.{line_of}
use Rattle.description_usage.specs.Syntax.{syntax_terms}
use Rattle.description_usage.proofs.syntax.syntax_terms.Given as goal

abbrev pub invariant-loop-way : goal.invariant-loop-way
invariant-loop-way g l = record {
  utf8 : shadow (Utf8 l.rest);
  put : map (λ term. line_of term.items) l.terms.items ++ syntax_terms l.rest ≡ syntax_terms l.text;
}

abbrev pub decreases-loop-way : goal.decreases-loop-way
decreases-loop-way g l = length l.rest
