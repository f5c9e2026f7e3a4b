use Rattle.std.proofs.Common.{◌∷◌, [], codes, arith}
use Rattle.page_model.specs.View.{form_of}
use Rattle.html_page.specs.Events.{say}
use Rattle.html_page.specs.Page.{form_events}
use Rattle.html_page.proofs.Joined.{joined_opened}
use Rattle.html_page.proofs.Outcomes.{putting}
use Rattle.html_page.proofs.usage.put_forms.Goals as goal

pub returns-in_err-put_form : goal.returns-in_err-put_form
returns-in_err-put_form g c =
    let whole = joined_opened form_events (say (codes "\n") ∷ []) form_of c.args.forms.now c.in-Some.first.now c.in-Some.others.now c.in-Some.ensures.cases.0 in
    grind (arith, putting, whole)

pub returns : goal.returns
returns g c =
    let whole = joined_opened form_events (say (codes "\n") ∷ []) form_of c.args.forms.now c.in-Some.first.now c.in-Some.others.now c.in-Some.ensures.cases.0 in
    grind (arith, putting, whole)
