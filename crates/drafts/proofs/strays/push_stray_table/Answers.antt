use Rattle.std.proofs.Common.{◌++◌, ◌∙◌, ap, cond, false, string_bytes, sym}
use Rattle.std.proofs.lemmas.Result.{on_ok_weaker}
use Rattle.help_fronts.specs.View.{used_said}
use Rattle.drafts.specs.Entries.{option_head}
use Rattle.drafts.specs.Strays.{good_front, letter_table}
use Rattle.drafts.proofs.strays.push_stray_table.Goals as goal

pub returns-else-stray : goal.returns-else-stray
returns-else-stray g c =
    let option = used_said c.args.stray.option in
    on_ok_weaker c.push_option_head.result
    (λ put. put ∙ ap (λ f. string_bytes c.args.out.now ++ option_head false f) c.requires
    ∙ sym (ap (λ b. string_bytes c.args.out.now ++ cond b (letter_table option.name) (option_head false (good_front option))) c.if-stray.false)) c.push_option_head.ensures
