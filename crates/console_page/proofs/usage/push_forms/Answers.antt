use Rattle.std.proofs.Common.{◌++◌, ◌∙◌, ap, string_bytes, arith}
use Rattle.page_model.specs.View.{form_of}
use Rattle.console_page.specs.Usage.{form_text}
use Rattle.console_page.proofs.Lists.{seen_step}
use Rattle.console_page.proofs.usage.push_forms.Goals as goal

pub loop-form-preserved : goal.loop-form-preserved
loop-form-preserved g c =
    let before = string_bytes c.loop-form.out in
    seen_step (form_text c.args.width c.args.word.now) c.args.forms.now form_of c.loop-form.form-index c.form-item.result (string_bytes c.args.out.now) before (string_bytes c.push_form.new.out) (omega arith) c.loop-form.invariant (c.in_ok-push_form.ensures ∙ ap (λ form. before ++ form_text c.args.width c.args.word.now (form_of form)) c.form-item.is)
