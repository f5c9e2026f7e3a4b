use Rattle.std.proofs.Common.{◌≡◌, ◌++◌, ◌≤◌, length, take, string_bytes}
use Rattle.web_page.specs.Steps.Pieces.{pieces_text}
use Rattle.web_page.proofs.output.write.Given as goal

abbrev pub invariant-loop-piece : goal.invariant-loop-piece
invariant-loop-piece g l = record {
  in_range : l.piece-index ≤ length l.pieces;
  before : l.len ≡ length (string_bytes l.initial.out);
  written : string_bytes l.out ≡ string_bytes l.initial.out ++ pieces_text (take l.piece-index l.pieces);
}
