use Rattle.std.specs.Prelude.{◌++◌, ◌∷◌}
use Rattle.bpaf_items.proofs.Words.{rules, [], start, end, Grows-then, Grows-by, pieces_write}
use Rattle.bpaf_items.proofs.Page.Leaving.{leaves_then}
use Rattle.bpaf_items.proofs.meta_help.pieces.put_inside.Goals as goal

pub returns-in_err-put : goal.returns-in_err-put
returns-in_err-put g c = (Grows-then _ _ _ (Grows-by _ _ (start c.args.block ∷ []) c.in_ok-put_words.ensures.1) c.put.ensures.0, search rules)

pub returns : goal.returns
returns g c =
    let held = pieces_write c.args.pieces.now in
    let closing = end c.args.block ∷ [] in
    leaves_then _ _ _ _ (start c.args.block ∷ []) (held ++ closing) c.in_ok-put_words.ensures.1 (leaves_then _ _ _ _ held closing c.in_ok-put.ensures.1 c.put_words-2.ensures)
