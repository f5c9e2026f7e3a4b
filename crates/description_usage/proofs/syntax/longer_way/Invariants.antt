use Rattle.std.proofs.Common.{◌≡◌, find, length, not}
use denote.Text.{Utf8}
use denote.Shadow.{shadow}
use Rattle.description_usage.specs.Syntax.{is_one_name, ways}
use Rattle.description_usage.proofs.syntax.longer_way.Given as goal

abbrev pub invariant-loop-way : goal.invariant-loop-way
invariant-loop-way l = record {
  utf8 : shadow (Utf8 l.rest);
  same : find (λ way. not (is_one_name way)) (ways l.rest) ≡ find (λ way. not (is_one_name way)) (ways l.text);
}

abbrev pub decreases-loop-way : goal.decreases-loop-way
decreases-loop-way l = length l.rest
