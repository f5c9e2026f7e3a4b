use Rattle.std.proofs.Common.{◌++◌, drop, sym, ap, ◌∙◌}
use Rattle.std.proofs.lemmas.List.{take-append-drop}
use Rattle.description_json.proofs.walk.before.Goals as goal

pub returns-in-Some : goal.returns-in-Some
returns-in-Some c =
    let rest = drop c.args.at c.args.text.now in
    (rest, sym (take-append-drop c.args.at c.args.text.now) ∙ ap (λ front. front ++ rest) (sym c.in-Some.ensures.front))
