use Rattle.std.proofs.Common.{◌≡◌, ◌+◌, ◌-◌, ◌<◌, true, false, length, drop, get_or, ap, subst, sym, ◌∙◌, arith}
use Rattle.std.proofs.lemmas.Str.{IsCharBoundary-after_ascii}
use Rattle.description_texts.specs.TextsInside.{is_lone, is_quote}
use Rattle.description_texts.proofs.TextsLiterals.{SplitSoFar, cut_byte, cut_here, none_left, passed}
use Rattle.description_texts.proofs.texts.literals.split_lone.Goals as goal

pub range_from-requires : goal.range_from-requires
range_from-requires c =
    let text = c.args.text.now in
    let at = c.loop-at.at in
    let is = c.as_bytes-bytes.ensures.value in
    let within : at < length text = omega (arith, ap length is) in
    let lone : is_lone c.loop-at.is_after_quote (get_or text at 0) (drop (at + 1) text) ≡ true = ap (λ bytes. is_lone c.loop-at.is_after_quote (get_or bytes at 0) (drop (at + 1) bytes)) (sym is) ∙ sym c.is_lone.ensures ∙ c.if-is_lone.true in
    λ _. IsCharBoundary-after_ascii text at c.utf8.text within (omega (arith, cut_byte text at c.loop-at.is_after_quote within c.loop-at.invariant lone))

pub returns-then-is_lone : goal.returns-then-is_lone
returns-then-is_lone c =
    let text = c.args.text.now in
    let at = c.loop-at.at in
    let is = c.as_bytes-bytes.ensures.value in
    let within : at < length text = omega (arith, ap length is) in
    let lone : is_lone c.loop-at.is_after_quote (get_or text at 0) (drop (at + 1) text) ≡ true = ap (λ bytes. is_lone c.loop-at.is_after_quote (get_or bytes at 0) (drop (at + 1) bytes)) (sym is) ∙ sym c.is_lone.ensures ∙ c.if-is_lone.true in
    let all : at - 0 ≡ at = omega arith in
    rw (c.range.ensures.value, c.range_from.ensures.value, all) (cut_here text at c.loop-at.is_after_quote within c.loop-at.invariant lone)

pub loop-at-preserved : goal.loop-at-preserved
loop-at-preserved c =
    let text = c.args.text.now in
    let at = c.loop-at.at in
    let is = c.as_bytes-bytes.ensures.value in
    let within : at < length text = omega (arith, ap length is) in
    let none : is_lone c.loop-at.is_after_quote (get_or text at 0) (drop (at + 1) text) ≡ false = ap (λ bytes. is_lone c.loop-at.is_after_quote (get_or bytes at 0) (drop (at + 1) bytes)) (sym is) ∙ sym c.is_lone.ensures ∙ c.if-is_lone.false in
    subst (λ bytes. SplitSoFar text (at + 1) (is_quote (get_or bytes at 0))) (sym is) (passed text at c.loop-at.is_after_quote within c.loop-at.invariant none)

pub returns : goal.returns
returns c = none_left c.args.text.now c.loop-at.at c.loop-at.is_after_quote (omega (arith, ap length c.as_bytes-bytes.ensures.value)) c.loop-at.invariant
