use Rattle.std.proofs.Common.{string_bytes, take}
use Rattle.std.proofs.lemmas.Str.{IsUtf8-string_bytes}
use Rattle.web_page.specs.Steps.Pieces.{pieces_text}
use Rattle.web_page.proofs.Escapes.{cut_at_end, extends_further}
use Rattle.web_page.proofs.output.write.Goals as goal
use Rattle.web_page.proofs.output.write.Goals.{In-Err}

pub truncate-requires : goal.truncate-requires
truncate-requires g c _ =
    let extends = extends_further (string_bytes c.args.out.now) (string_bytes c.loop-piece.out) (string_bytes c.push_piece.new.out) (pieces_text (take c.loop-piece.piece-index c.args.pieces.now)) c.loop-piece.invariant.written c.push_piece.ensures.kept in
    let cut = cut_at_end (string_bytes c.args.out.now) (string_bytes c.push_piece.new.out) c.len-len.result (IsUtf8-string_bytes c.args.out.now) (IsUtf8-string_bytes c.push_piece.new.out) c.loop-piece.invariant.before extends in
    (cut.0, λ _ h k. cut.1 h k)
