use Rattle.std.proofs.Common.{◌≡◌, ◌++◌, length, map}
use denote.Text.{Utf8}
use denote.Shadow.{shadow}
use Rattle.std.specs.List.{concat}
use Rattle.help_fronts.specs.Pieces.{pieces, word}
use Rattle.help_fronts.specs.Fronts.{belonging}
use Rattle.help_fronts.proofs.Ends.{front_of, IsEnd}
use Rattle.help_fronts.proofs.front.push_words.Given as goal

abbrev pub invariant-loop-piece : goal.invariant-loop-piece
invariant-loop-piece g l = record {
  last_utf8 : shadow (Utf8 l.last);
  rest_utf8 : shadow (Utf8 l.rest);
  is_end : IsEnd l.after l.rest;
  written : concat (belonging l.kind l.before (pieces l.after)) ≡ front_of l.after l.rest ++ concat (belonging l.kind l.last (pieces l.rest));
  words : map (λ w. w.now) l.words.items ++ map word (belonging l.kind l.last (pieces l.rest)) ≡ map (λ w. w.now) l.initial.words.items ++ map word (belonging l.kind l.before (pieces l.after));
}

abbrev pub decreases-loop-piece : goal.decreases-loop-piece
decreases-loop-piece g l = length l.rest
