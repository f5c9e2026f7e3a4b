use Rattle.std.proofs.Common.{◌≡◌, ◌<◌, ◌∷◌, ap, drop, get_or, length, rules, subst, sym, ◌∙◌}
use Rattle.std.specs.List.{prefix_len}
use Rattle.std.specs.Str.{IsCharBoundary}
use Rattle.description_usage.specs.Syntax.{is_same, stretches}
use Rattle.description_usage.specs.Syntax.Steps.{is_in}
use Rattle.description_usage.proofs.Stretches.{stretch_ends, stretch_there}
use Rattle.description_usage.proofs.syntax.first_stretch.Goals as goal

pub split_at-requires : goal.split_at-requires
split_at-requires c =
    let len = c.alike_len-len.ensures ∙ ap (prefix_len (λ byte. is_same c.holds.result (is_in c.args.class byte))) c.as_bytes-2.ensures.value in
    subst (IsCharBoundary c.args.text.now) (sym len) (stretch_ends c.args.class c.holds.result c.args.text.now c.utf8.text)

pub returns-clause-stretches : goal.returns-clause-stretches
returns-clause-stretches c =
    let text = c.args.text.now in
    let b = c.in_ok-first.field-0.now in
    let test = is_in c.args.class in
    let some : 0 < length text = search rules in
    let at : b ≡ get_or text 0 0 = search rules in
    let len = c.alike_len-len.ensures ∙ ap (prefix_len (λ byte. is_same c.holds.result (test byte))) c.as_bytes-2.ensures.value
    ∙ ap (λ t. prefix_len (λ byte. is_same t (test byte)) text) c.holds.ensures in
    stretch_there test text b c.alike_len-len.result some at len
    ∙ ap (λ f. f ∷ stretches test (drop c.alike_len-len.result text)) (sym c.split_at.ensures.front) ∙ ap (λ r. c.split_at.result.0.now ∷ stretches test r) (sym c.split_at.ensures.back)
