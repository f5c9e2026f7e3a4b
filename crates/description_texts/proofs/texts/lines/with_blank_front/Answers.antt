use Rattle.std.proofs.Common.{◌≡◌, ◌-◌, false, take, sym, ap, ◌∙◌, arith}
use Rattle.description_texts.proofs.TextsBounds.{after_white}
use Rattle.description_texts.proofs.TextsSpaces.{blank_front, has_tab}
use Rattle.description_texts.proofs.texts.lines.with_blank_front.Goals as goal

pub range-requires-clause-end_boundary : goal.range-requires-clause-end_boundary
range-requires-clause-end_boundary c = rw c.white_len-front.ensures (after_white c.args.line.now c.utf8.line)

pub range_from-requires : goal.range_from-requires
range_from-requires c = λ _. rw c.white_len-front.ensures (after_white c.args.line.now c.utf8.line)

pub returns-then-not-has_tab : goal.returns-then-not-has_tab
returns-then-not-has_tab c =
    let line = c.args.line.now in
    let front = c.white_len-front.result in
    let all : front - 0 ≡ front = omega arith in
    let taken : has_tab (take front line) ≡ false = ap (λ n. has_tab (take n line)) (sym all) ∙ sym (ap has_tab c.range.ensures.value) ∙ sym c.has_tab.ensures ∙ c.if-not-has_tab.true in
    sym (blank_front line (ap (λ n. has_tab (take n line)) (sym c.white_len-front.ensures) ∙ taken))
