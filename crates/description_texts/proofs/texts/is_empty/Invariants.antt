use Rattle.std.proofs.Common.{◌≡◌, length}
use Rattle.std.specs.List.{slice_split}
use denote.Text.{Utf8}
use denote.Shadow.{shadow}
use Rattle.description_texts.specs.Texts.{is_empty, is_newline}
use Rattle.description_texts.proofs.TextsEmpty.{quiet}
use Rattle.description_texts.proofs.texts.is_empty.Given as goal

abbrev pub invariant-loop-line : goal.invariant-loop-line
invariant-loop-line l = record {
  utf8 : shadow (Utf8 l.rest);
  quiet : quiet l.in_fence (slice_split is_newline l.rest) ≡ is_empty l.text;
}

abbrev pub decreases-loop-line : goal.decreases-loop-line
decreases-loop-line l = length l.rest
