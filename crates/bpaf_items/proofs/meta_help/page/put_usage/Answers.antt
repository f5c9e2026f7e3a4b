use Rattle.std.specs.Prelude.{◌++◌, ◌∷◌}
use Rattle.bpaf_items.proofs.Words.{[], map, rules, string_bytes, end, start, tree_of, Grows-then, Grows-by, usage_line_writes}
use Rattle.bpaf_doc.specs.declared.buffer.Block.TheVariants as block
use Rattle.bpaf_items.proofs.Page.Leaving.{leaves_then}
use Rattle.bpaf_items.proofs.meta_help.page.put_usage.Goals as goal

pub returns-in_err-put_usage_text : goal.returns-in_err-put_usage_text
returns-in_err-put_usage_text g c = (Grows-then _ _ _ (Grows-by _ _ (start block.Block ∷ []) c.in_ok-put_words.ensures.1) c.put_usage_text.ensures.0, search rules)

pub returns : goal.returns
returns g c =
    let line = usage_line_writes (map string_bytes c.args.path.now) c.args.usage.now (tree_of c.args.parser.now) in
    let closing = end block.Block ∷ [] in
    leaves_then _ _ _ _ (start block.Block ∷ []) (line ++ closing) c.in_ok-put_words.ensures.1 (leaves_then _ _ _ _ line closing c.in_ok-put_usage_text.ensures.1 c.put_words-2.ensures)
