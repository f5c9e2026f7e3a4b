use Rattle.std.proofs.Common.{◌++◌, ◌∷◌, ◌∙◌, ap, drop, map, rules, take}
use Rattle.std.specs.List.{concat}
use Rattle.help_fronts.specs.Pieces.{pieces, word}
use Rattle.help_fronts.specs.Fronts.{belonging, front_from, gap_of, help_of}
use Rattle.help_fronts.proofs.Boundaries.{after_gap}
use Rattle.help_fronts.proofs.Ends.{cut_whole, front_ends, front_is, front_len, whole_front, words_all}
use Rattle.help_fronts.proofs.front.cut_front.Goals as goal

pub split_at-requires : goal.split_at-requires
split_at-requires g c =
    let first = c.args.first.now in
    let after = c.args.after.now in
    let rest = c.in_ok-rest.rest.now in
    let whole = whole_front c.args.text.now first after rest (belonging c.args.kind c.word-2.result.now (pieces after)) c.requires c.in_ok-rest.ensures.rest in
    front_ends c.args.text.now (concat (first ∷ belonging c.args.kind c.word-2.result.now (pieces after))) rest whole (search rules)

pub split_at-requires-2 : goal.split_at-requires-2
split_at-requires-2 g c = rw c.gap_len.ensures (after_gap c.split_at.result.1.now (search rules))

pub returns-clause-written : goal.returns-clause-written
returns-clause-written g c =
    let cut = cut_whole c.args.kind c.args.text.now c.args.first.now c.args.after.now c.in_ok-rest.rest.now c.word-2.result.now c.word-2.ensures c.requires c.in_ok-rest.ensures.rest in
    c.split_at.ensures.front ∙ front_is c.args.text.now (concat (front_from c.args.kind c.args.first.now (pieces c.args.after.now))) c.in_ok-rest.rest.now cut

pub returns-clause-words : goal.returns-clause-words
returns-clause-words g c =
    words_all (λ w. w.now) c.new-words.result.items c.push.new.self.items c.push_words.new.words.items c.word.result c.args.first.now (belonging c.args.kind (word c.args.first.now) (pieces c.args.after.now)) c.new-words.ensures.items
    c.in_ok-push.ensures.items c.word.ensures
    (c.in_ok-rest.ensures.words ∙ ap (λ w. map (λ w. w.now) c.push.new.self.items ++ map word (belonging c.args.kind w (pieces c.args.after.now))) c.word-2.ensures)

pub returns-clause-gap : goal.returns-clause-gap
returns-clause-gap g c =
    let cut = cut_whole c.args.kind c.args.text.now c.args.first.now c.args.after.now c.in_ok-rest.rest.now c.word-2.result.now c.word-2.ensures c.requires c.in_ok-rest.ensures.rest in
    c.split_at-2.ensures.front ∙ ap (λ n. take n c.split_at.result.1.now) c.gap_len.ensures
    ∙ ap gap_of (c.split_at.ensures.back ∙ ap (λ n. drop n c.args.text.now) (front_len c.args.text.now (concat (front_from c.args.kind c.args.first.now (pieces c.args.after.now))) c.in_ok-rest.rest.now cut))

pub returns-clause-help : goal.returns-clause-help
returns-clause-help g c =
    let cut = cut_whole c.args.kind c.args.text.now c.args.first.now c.args.after.now c.in_ok-rest.rest.now c.word-2.result.now c.word-2.ensures c.requires c.in_ok-rest.ensures.rest in
    c.split_at-2.ensures.back ∙ ap (λ n. drop n c.split_at.result.1.now) c.gap_len.ensures
    ∙ ap help_of (c.split_at.ensures.back ∙ ap (λ n. drop n c.args.text.now) (front_len c.args.text.now (concat (front_from c.args.kind c.args.first.now (pieces c.args.after.now))) c.in_ok-rest.rest.now cut))
