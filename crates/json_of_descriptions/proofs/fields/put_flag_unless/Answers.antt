use Rattle.std.proofs.lemmas.Result.{on_ok_weaker}
use Rattle.json_of_descriptions.proofs.Flags.{flag_put, flag_usual}
use Rattle.json_of_descriptions.proofs.fields.put_flag_unless.Goals as goal

pub returns-then-flag-usual : goal.returns-then-flag-usual
returns-then-flag-usual g c = flag_usual c.args.out.now c.args.key.now c.args.usual c.args.flag c.if-flag-usual.true

pub returns : goal.returns
returns g c =
    on_ok_weaker c.token-2.result (λ h. flag_put c.args.out.now c.token.new.self c.token-2.new.self c.args.key.now c.args.usual c.args.flag c.if-flag-usual.false c.in_ok-token.ensures.ok h) c.token-2.ensures.ok
