use Rattle.std.proofs.Common.{◌≡◌, ◌++◌, ◌∷◌, length, map}
use denote.Text.{Utf8}
use denote.Shadow.{shadow}
use Rattle.help_fronts.specs.Pieces.{pieces}
use Rattle.help_fronts.specs.Fronts.{names}
use Rattle.help_fronts.specs.Lines.{further_words}
use Rattle.help_fronts.proofs.line.push_names.Given as goal

abbrev pub invariant-loop-found : goal.invariant-loop-found
invariant-loop-found g l = record {
  before_utf8 : shadow (Utf8 l.before);
  rest_utf8 : shadow (Utf8 l.rest);
  so_far : map (λ n. n.now) l.names.items ++ names (further_words l.before (pieces l.rest)) ≡ map (λ n. n.now) l.fn.names.items ++ names (l.first ∷ further_words l.first (pieces l.after));
}

abbrev pub decreases-loop-found : goal.decreases-loop-found
decreases-loop-found g l = length l.rest
