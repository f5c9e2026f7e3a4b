use Rattle.std.proofs.Common.{◌≡◌, length}
use denote.Text.{Utf8}
use denote.Shadow.{shadow}
use Rattle.description_texts.specs.TextsInside.{by_turns, line_pieces, lone_parts, with_pieces}
use Rattle.description_texts.specs.TextsView.{draft_of}
use Rattle.description_texts.proofs.texts.inside.push_marked.Given as goal

abbrev pub invariant-loop-pair : goal.invariant-loop-pair
invariant-loop-pair l = record {
  utf8 : shadow (Utf8 l.rest);
  written : with_pieces (draft_of l.pieces) (by_turns (lone_parts l.rest)) ≡ with_pieces (draft_of l.fn.pieces) (line_pieces l.line);
}

abbrev pub decreases-loop-pair : goal.decreases-loop-pair
decreases-loop-pair l = length l.rest
