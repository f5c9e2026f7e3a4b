use Rattle.description_texts.proofs.TextsLiterals.{pair_said, shorter}
use Rattle.description_texts.proofs.texts.literals.first_pair.Goals as goal

pub returns : goal.returns
returns c =
    let text = c.args.text.now in
    let before = c.in-Some.before.now in
    let rest = c.in-Some.rest.now in
    let inner = c.in-Some-split_lone.inner.now in
    let after = c.in-Some-split_lone.after.now in
    (pair_said text before rest inner after c.in-Some.ensures c.in-Some-split_lone.ensures, shorter text before rest inner after c.in-Some.ensures c.in-Some-split_lone.ensures)
