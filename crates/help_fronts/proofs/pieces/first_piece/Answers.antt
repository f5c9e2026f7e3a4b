use Rattle.std.proofs.Common.{◌≡◌, ◌+◌, ◌∷◌, ◌∙◌, ap, drop, length, rules, sym}
use Rattle.help_fronts.specs.Pieces.{deeper, pieces}
use Rattle.help_fronts.proofs.Cuts.{first_cut, piece_ends, rest_within}
use Rattle.help_fronts.proofs.pieces.first_piece.Goals as goal

pub overflow_add-rest_len : goal.overflow_add-rest_len
overflow_add-rest_len c =
    let first = c.in_ok-first.first.now in
    let after = c.in_ok-first.after.now in
    let within = rest_within (deeper 0 first) first after in
    let whole : c.args.text.now ≡ first ∷ after = search rules in
    let long : length c.args.text.now ≡ length (first ∷ after) = ap length whole in
    search rules

pub split_at-requires : goal.split_at-requires
split_at-requires c =
    let first = c.in_ok-first.first.now in
    let after = c.in_ok-first.after.now in
    let whole : c.args.text.now ≡ first ∷ after = search rules in
    piece_ends c.args.text.now after first (deeper 0 first) first c.rest_len.result whole c.rest_len.ensures

pub returns-clause-pieces : goal.returns-clause-pieces
returns-clause-pieces c =
    let first = c.in_ok-first.first.now in
    let after = c.in_ok-first.after.now in
    let whole : c.args.text.now ≡ first ∷ after = search rules in
    first_cut c.args.text.now after first c.rest_len.result whole c.rest_len.ensures
    ∙ ap (λ f. f ∷ pieces (drop (1 + c.rest_len.result) c.args.text.now)) (sym c.split_at.ensures.front) ∙ ap (λ r. c.split_at.result.0.now ∷ pieces r) (sym c.split_at.ensures.back)
