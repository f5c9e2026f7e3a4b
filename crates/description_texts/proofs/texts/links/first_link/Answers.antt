use Rattle.std.proofs.Common.{◌≡◌, ◌+◌, ◌-◌, ◌<◌, length, drop, get_or, ap, subst, sym, ◌∙◌, arith}
use Rattle.std.specs.Str.{IsCharBoundary}
use Rattle.std.proofs.lemmas.Str.{IsCharBoundary-after_ascii}
use Rattle.description_texts.specs.TextsInside.{link_len}
use Rattle.description_texts.specs.TextsView.{IsLinkAt}
use Rattle.description_texts.proofs.TextsLinks.{link_next, word_next}
use Rattle.description_texts.proofs.texts.links.first_link.Goals as goal

pub range_from-requires : goal.range_from-requires
range_from-requires c =
    let text = c.args.text.now in
    let at = c.loop-at.at in
    let len = c.link_len-len.result in
    let there : IsLinkAt text at len = subst (λ bytes. IsLinkAt bytes at len) c.as_bytes-bytes.ensures.value (c.link_len-len.ensures.there c.if-len-gt0.true) in
    let place : at + 1 + len + 1 ≡ at + 2 + len = omega arith in
    λ _. subst (IsCharBoundary text) place (IsCharBoundary-after_ascii text (at + 1 + len) c.utf8.text there.within (omega (arith, there.closes)))

pub returns-then-len-gt0 : goal.returns-then-len-gt0
returns-then-len-gt0 c =
    let text = c.args.text.now in
    let at = c.loop-at.at in
    let len = c.link_len-len.result in
    let is = c.as_bytes-bytes.ensures.value in
    let within : at < length text = omega (arith, ap length is) in
    let there : IsLinkAt text at len = subst (λ bytes. IsLinkAt bytes at len) is (c.link_len-len.ensures.there c.if-len-gt0.true) in
    let found : len ≡ link_len (get_or text at 0) (drop (at + 1) text) = c.link_len-len.ensures.value ∙ ap (λ bytes. link_len (get_or bytes at 0) (drop (at + 1) bytes)) is in
    let all : at - 0 ≡ at = omega arith in
    let inner : at + 1 + len - (at + 1) ≡ len = omega arith in
    (rw (c.range.ensures.value, c.range-then-len-gt0.ensures.value, c.range_from.ensures.value, all, inner) (link_next text at within c.loop-at.invariant len found c.if-len-gt0.true there.within), omega arith)

pub loop-at-preserved : goal.loop-at-preserved
loop-at-preserved c =
    let text = c.args.text.now in
    let at = c.loop-at.at in
    let is = c.as_bytes-bytes.ensures.value in
    let within : at < length text = omega (arith, ap length is) in
    let none : c.link_len-len.result ≡ 0 = omega arith in
    word_next text at within c.loop-at.invariant (ap (λ bytes. link_len (get_or bytes at 0) (drop (at + 1) bytes)) (sym is) ∙ sym c.link_len-len.ensures.value ∙ none)
