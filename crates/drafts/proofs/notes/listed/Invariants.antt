use Rattle.std.proofs.Common.{◌≡◌, ◌++◌, length, map}
use denote.Text.{Utf8}
use denote.Shadow.{shadow}
use Rattle.drafts.specs.Notes.{listed}
use Rattle.drafts.proofs.notes.listed.Given as goal

abbrev pub invariant-loop-word : goal.invariant-loop-word
invariant-loop-word g l = record {
  utf8 : shadow (Utf8 l.rest);
  so_far : map (λ w. w.now) l.words.items ++ listed l.rest ≡ listed l.text;
}

abbrev pub decreases-loop-word : goal.decreases-loop-word
decreases-loop-word g l = length l.rest
