use Rattle.std.proofs.Common.{sym, ◌∙◌}
use Rattle.std.proofs.lemmas.Result.{on_ok_weaker}
use Rattle.json_of_descriptions.proofs.Putting.{object_at_none, object_at_put}
use Rattle.json_of_descriptions.proofs.Usual.{all_words}
use Rattle.json_of_descriptions.proofs.words.put_table.Goals as goal

pub returns-then-are_usual : goal.returns-then-are_usual
returns-then-are_usual g c = object_at_none c.args.out.now c.args.key.now (all_words c.args.rows.now) (sym c.are_usual.ensures ∙ c.if-are_usual.true)

pub returns : goal.returns
returns g c =
    on_ok_weaker c.token-3.result
    (λ h. object_at_put c.args.out.now c.token.new.self c.token-2.new.self c.put_rows.new.out c.token-3.new.self c.args.key.now (all_words c.args.rows.now) (sym c.are_usual.ensures ∙ c.if-are_usual.false) c.in_ok-token.ensures.ok c.in_ok-token-2.ensures.ok
    c.in_ok-put_rows.ensures h)
    c.token-3.ensures.ok
