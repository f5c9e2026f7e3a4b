use Rattle.std.specs.Prelude.{◌++◌}
use Rattle.bpaf_items.proofs.Words.{option_copied, text_of, env_writes, help_writes, term, texts_in, shown_text, pieces_write}
use Rattle.bpaf_items.proofs.Page.Leaving.{leaves_then}
use Rattle.bpaf_items.proofs.meta_help.writes.Writer.put_named.Goals as goal

pub returns : goal.returns
returns g c =
    let help = option_copied c.args.help in
    let env = env_writes c.args.self.now.include_env (λ name. shown_text c.args.shown name (texts_in c.args.self.now.texts.now name)) help (text_of c.args.env) in
    leaves_then _ _ _ _ (term (pieces_write c.args.names.now) ++ help_writes help) env c.in_ok-put_item.ensures.1 c.put_env.ensures
