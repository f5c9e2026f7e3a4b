use Rattle.std.proofs.Common.{◌∷◌, [], codes, arith}
use Rattle.html_page.specs.Events.{say}
use Rattle.html_page.proofs.Joined.{joined_opened}
use Rattle.html_page.proofs.Outcomes.{putting}
use Rattle.html_page.proofs.lines.put_code.Goals as goal

pub returns-in_err-say : goal.returns-in_err-say
returns-in_err-say g c =
    let whole = joined_opened (λ line. say line ∷ []) (say (codes "\n") ∷ []) (λ line. line.now) c.args.lines.now c.in-Some.first.now c.in-Some.others.now c.in-Some.ensures.cases.0 in
    grind (arith, putting, whole)

pub returns : goal.returns
returns g c =
    let whole = joined_opened (λ line. say line ∷ []) (say (codes "\n") ∷ []) (λ line. line.now) c.args.lines.now c.in-Some.first.now c.in-Some.others.now c.in-Some.ensures.cases.0 in
    grind (arith, putting, whole)
