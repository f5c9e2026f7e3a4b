-- Each turn writes a run and a block.
use Rattle.std.specs.Prelude.{◌++◌, ◌+◌, ◌-◌, ◌<◌, ◌≡◌}
use Rattle.bpaf_doc.proofs.lemmas.Html.Words.{length, get_or, sym, ap, ap₂, subst, ◌∙◌, take, arith, string_bytes, take-append-drop, get_or-drop, IsUtf8-drop, spelling_of}
use Rattle.std.specs.Str.{IsUtf8}
use Rattle.bpaf_doc.proofs.lemmas.Html.Spelled.{block_on, block_begins}
use Rattle.bpaf_doc.proofs.html.push_spelled.Goals as goal

pub loop-at-smaller : goal.loop-at-smaller
loop-at-smaller g c =
    let rest = c.loop-at.rest.now in
    let at = c.in-Some.at in
    let spelled = c.range_from-spelled.result.now in
    let itself : at + 0 ≡ at = omega arith in
    let ascii : get_or spelled 0 0 < 128 = rw (c.range_from-spelled.ensures.value, get_or-drop at rest 0 0, itself) c.in-Some.ensures.2 in
    let some : 0 < length spelled = omega (arith, c.range_from-spelled.ensures.len, c.in-Some.ensures.0) in
    let begun = block_begins spelled c.floor_char_boundary.result 32 c.range_from-spelled.utf8 some ascii (omega arith) c.floor_char_boundary.ensures.nearest in
    omega (arith, begun, c.split_at.ensures.back_len, c.range_from-spelled.ensures.len, c.in-Some.ensures.0)

pub loop-at-preserved : goal.loop-at-preserved
loop-at-preserved g c =
    let rest = c.loop-at.rest.now in
    let at = c.in-Some.at in
    let spelled = c.range_from-spelled.result.now in
    let end = c.floor_char_boundary.result in
    let from_start : at - 0 ≡ at = omega arith in (
      subst IsUtf8 (sym c.split_at.ensures.back) (IsUtf8-drop spelled end c.range_from-spelled.utf8 c.floor_char_boundary.ensures.boundary),
      block_on (spelling_of c.args.language) _ rest c.split_at.result.0.now c.split_at.result.1.now (string_bytes c.loop-at.out) (string_bytes c.push_str-in-Some.new.self) (string_bytes c.push_block.new.out) at
          c.in-Some.ensures.1
          (sym c.range_from-spelled.ensures.value ∙ sym (take-append-drop end spelled) ∙ ap₂ (λ x y. x ++ y) (sym c.split_at.ensures.front) (sym c.split_at.ensures.back))
          (c.in_ok-push_str.ensures.bytes ∙ ap (λ run. string_bytes c.loop-at.out ++ run) (c.range.ensures.value ∙ ap (λ n. take n rest) from_start))
          c.in_ok-push_block.ensures
          c.loop-at.invariant.1,
    )
