use Rattle.std.proofs.Common.{◌∷◌, [], arith}
use Rattle.page_model.specs.View.{line_of}
use Rattle.html_page.specs.Events.{break_line}
use Rattle.html_page.specs.Page.{line_events}
use Rattle.html_page.proofs.Joined.{joined_opened}
use Rattle.html_page.proofs.Outcomes.{putting}
use Rattle.html_page.proofs.lines.put_lines.Goals as goal

pub returns-in_err-put_line : goal.returns-in_err-put_line
returns-in_err-put_line g c =
    let whole = joined_opened line_events (break_line ∷ []) (λ line. line_of line.items) c.args.lines.now c.in-Some.first.now c.in-Some.others.now c.in-Some.ensures.cases.0 in
    grind (arith, putting, whole)

pub returns : goal.returns
returns g c =
    let whole = joined_opened line_events (break_line ∷ []) (λ line. line_of line.items) c.args.lines.now c.in-Some.first.now c.in-Some.others.now c.in-Some.ensures.cases.0 in
    grind (arith, putting, whole)
