use Rattle.std.proofs.Common.{◌≡◌, length}
use denote.Text.{Utf8}
use denote.Shadow.{shadow}
use Rattle.completions.specs.Syntax.{syntax_how}
use Rattle.completions.proofs.syntax.syntax_how.Given as goal

abbrev pub invariant-loop-word : goal.invariant-loop-word
invariant-loop-word l = record {
  utf8 : shadow (Utf8 l.rest);
  same : syntax_how l.rest ≡ syntax_how l.text;
}

abbrev pub decreases-loop-word : goal.decreases-loop-word
decreases-loop-word l = length l.rest
