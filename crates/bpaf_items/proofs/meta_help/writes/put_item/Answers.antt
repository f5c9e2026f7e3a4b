use Rattle.bpaf_items.proofs.Words.{option_copied, help_writes, term, pieces_write}
use Rattle.bpaf_items.proofs.Page.Leaving.{leaves_then}
use Rattle.bpaf_items.proofs.meta_help.writes.put_item.Goals as goal

pub returns : goal.returns
returns g c = leaves_then _ _ _ _ (term (pieces_write c.args.pieces.now)) (help_writes (option_copied c.args.help)) c.in_ok-put_inside.ensures.1 c.put_help.ensures
