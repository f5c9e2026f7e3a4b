use Rattle.std.proofs.Common.{◌++◌, ◌∙◌, ap, string_bytes}
use Rattle.std.proofs.lemmas.Result.{on_ok_weaker}
use Rattle.drafts.specs.Strays.{stray_if}
use Rattle.drafts.specs.View.{stray_said}
use Rattle.drafts.proofs.strays.push_stray.Goals as goal

pub returns-clause-text : goal.returns-clause-text
returns-clause-text g c =
    on_ok_weaker c.push_stray_if.result (λ put. put ∙ ap (λ b. string_bytes c.args.out.now ++ stray_if b (stray_said c.args.stray)) c.in_ok-is_free.ensures.free) c.push_stray_if.ensures
