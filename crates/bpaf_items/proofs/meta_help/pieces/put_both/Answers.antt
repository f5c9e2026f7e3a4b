use Rattle.std.specs.Prelude.{◌∷◌}
use Rattle.bpaf_items.proofs.Words.{rules, [], codes, literal, plain, Grows-then, Grows-by}
use Rattle.bpaf_meta.specs.Names.{long_text, short_text}
use Rattle.bpaf_items.proofs.Page.Leaving.{leaves_call, leaves_third}
use Rattle.bpaf_items.proofs.meta_help.pieces.put_both.Goals as goal

pub returns-in_err-text : goal.returns-in_err-text
returns-in_err-text g c =
    (Grows-then _ _ _ (Grows-by _ _ (literal (short_text c.args.short) ∷ []) c.in_ok-write_shortlong.ensures.ok) (Grows-by _ _ [] c.in_err-text.ensures.err), search rules)

pub returns : goal.returns
returns g c =
    let long = literal (long_text c.args.long.now) ∷ [] in
    leaves_third _ _ _ _ _ (literal (short_text c.args.short) ∷ []) (plain (codes ", ") ∷ []) long c.in_ok-write_shortlong.ensures.ok c.in_ok-text.ensures.ok
    (leaves_call c.write_shortlong-2.result c.text.new.self c.write_shortlong-2.new.doc long c.write_shortlong-2.ensures.ok c.write_shortlong-2.ensures.err)
