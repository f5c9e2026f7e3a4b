use Rattle.std.proofs.Common.{◌≡◌, ◌++◌, map, take}
use Rattle.std.specs.Prelude.{flat_map}
use Rattle.description_texts.specs.TextsInside.{further_pieces, line_pieces, nothing, with_pieces}
use Rattle.description_texts.specs.TextsView.{draft_of}
use Rattle.description_texts.proofs.texts.inside.shown_line.Given as goal

abbrev pub invariant-loop-line : goal.invariant-loop-line
invariant-loop-line l = draft_of l.pieces ≡ with_pieces nothing (line_pieces l.first ++ flat_map further_pieces (map (λ line. line.now) (take l.line-index l.more)))
