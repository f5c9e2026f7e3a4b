use Rattle.std.specs.Prelude.{◌++◌, ◌∷◌}
use Rattle.bpaf_items.proofs.Words.{true, [], ◌∙◌, map, rules, string_bytes, end, path_writes, tree_of, usage_writes, usage_start}
use Rattle.bpaf_doc.specs.declared.buffer.Block.TheVariants as block
use Rattle.bpaf_items.proofs.Page.Leaving.{leaves_then, written_then}
use Rattle.bpaf_items.proofs.meta_help.page.put_usage_line.Goals as goal

pub returns-in_err-write_meta : goal.returns-in_err-write_meta
returns-in_err-write_meta g c =
    let names = path_writes (map string_bytes c.args.path.now) in
    let named = written_then c.args.doc.now c.put_words.new.doc c.write_path.new.self usage_start names c.in_ok-put_words.ensures.1 c.in_ok-write_path.ensures.ok in
    ((usage_start ++ names, c.in_err-write_meta.ensures.err ∙ named), search rules)

pub returns : goal.returns
returns g c =
    let names = path_writes (map string_bytes c.args.path.now) in
    let usage = usage_writes true (tree_of c.args.parser.now) in
    leaves_then _ _ _ _ (usage_start ++ (names ++ usage)) (end block.Mono ∷ [])
    (written_then c.args.doc.now c.put_words.new.doc c.write_meta.new.doc usage_start (names ++ usage) c.in_ok-put_words.ensures.1
    (written_then c.put_words.new.doc c.write_path.new.self c.write_meta.new.doc names usage c.in_ok-write_path.ensures.ok c.in_ok-write_meta.ensures.ok))
    c.put_words-2.ensures
