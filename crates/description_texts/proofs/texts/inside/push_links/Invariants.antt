use Rattle.std.proofs.Common.{◌≡◌, length}
use denote.Text.{Utf8}
use denote.Shadow.{shadow}
use Rattle.description_texts.specs.TextsInside.{links, with_pieces}
use Rattle.description_texts.specs.TextsView.{draft_of}
use Rattle.description_texts.proofs.texts.inside.push_links.Given as goal

abbrev pub invariant-loop-link : goal.invariant-loop-link
invariant-loop-link l = record {
  utf8 : shadow (Utf8 l.rest);
  written : with_pieces (draft_of l.pieces) (links l.rest) ≡ with_pieces (draft_of l.fn.pieces) (links l.text);
}

abbrev pub decreases-loop-link : goal.decreases-loop-link
decreases-loop-link l = length l.rest
