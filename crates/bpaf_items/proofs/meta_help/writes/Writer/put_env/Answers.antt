use Rattle.std.specs.Prelude.{◌++◌, ◌∷◌, ◌≡◌}
use Rattle.bpaf_items.proofs.Words.{[], ◌∙◌, false, ap, subst, option_copied, plain, body, env_body, env_term, env_text, texts_in, shown_text, Leaves}
use Rattle.bpaf_items.proofs.Page.Leaving.{leaves_then}
use Rattle.bpaf_items.proofs.meta_help.writes.Writer.put_env.Goals as goal

pub returns-then-not-self : goal.returns-then-not-self
returns-then-not-self g c =
    rw (c.in-Some.is, c.if-not-self.true) (leaves_then _ _ _ _ (env_term (option_copied c.args.help)) (body (env_body false c.in-Some.name.now [])) c.in_ok-put_env_term.ensures.1 c.put_env_name.ensures)

pub returns : goal.returns
returns g c =
    let n = c.in-Some.name.now in
    let shown = shown_text c.args.shown n (texts_in c.args.self.now.texts.now n) in
    let same : env_text n (c.of.result.0.now ++ c.of.result.1.now) ≡ shown = c.of.ensures n ∙ ap (shown_text c.args.shown n) c.get.ensures in
    rw (c.in-Some.is, c.if-not-self.false) (leaves_then _ _ _ _ (env_term (option_copied c.args.help)) (body (plain shown ∷ [])) c.in_ok-put_env_term.ensures.1
    (subst (λ bytes. Leaves c.put_env_text.result c.put_env_term.new.doc c.put_env_text.new.doc (body (plain bytes ∷ []))) same c.put_env_text.ensures))
