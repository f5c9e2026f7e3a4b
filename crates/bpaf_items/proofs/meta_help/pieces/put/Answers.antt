use Rattle.bpaf_items.proofs.Words.{rules, take, flat_map, take_all, arith, Grows-then, Grows-by, piece_writes}
use Rattle.bpaf_items.proofs.Page.Leaving.{pieces-all}
use Rattle.bpaf_items.proofs.meta_help.pieces.put.Goals as goal

pub returns-in_err-put_piece : goal.returns-in_err-put_piece
returns-in_err-put_piece g c =
    let so_far = Grows-by c.args.doc.now c.loop-piece.doc (flat_map piece_writes (take c.loop-piece.piece-index c.args.pieces.now)) c.loop-piece.invariant.written in
    (Grows-then _ _ _ so_far c.put_piece.ensures.0, search rules)

pub returns : goal.returns
returns g c = grind (arith, take_all, pieces-all, Grows-by)
