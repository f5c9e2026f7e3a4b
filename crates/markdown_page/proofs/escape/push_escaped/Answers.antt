use Rattle.std.proofs.Common.{◌≡◌, ◌-◌, ◌+◌, ◌++◌, ◌<◌, ◌||◌, true, false, length, take, drop, get_or, string_bytes, ap, ◌∙◌, sym, arith, refl}
use Rattle.std.specs.Prelude.{◌==◌}
use Rattle.std.proofs.lemmas.Str.{IsCharBoundary-start, IsCharBoundary-after_ascii, IsCharBoundary-before_ascii}
use Rattle.markdown_page.specs.Bytes.{is_word}
use Rattle.markdown_page.specs.Exact.{is_escaped, stand_for}
use Rattle.markdown_page.proofs.Escapes.{bare_step, itself, marked_is, marked_step, replaced_small, replaced_step, seen_escaped}
use Rattle.markdown_page.proofs.escape.push_escaped.Goals as goal
use Rattle.markdown_page.proofs.escape.push_escaped.Goals.{then-is_escaped+in_ok-push_str+in_ok-push_str-2, else-is_escaped+then-is_replaced+in_ok-push_str-3+in_ok-push_str-4, else-is_escaped+else-is_replaced}

pub loop-at-init : goal.loop-at-init
loop-at-init g c = record {
  in_order = omega arith;
  boundary = IsCharBoundary-start c.args.text.now c.utf8.text;
  written = refl;
}

pub loop-at-preserved : goal.loop-at-preserved
loop-at-preserved g c =
    let heading = c.args.in_heading in
    let after = c.loop-at.is_after_word in
    let text = c.args.text.now in
    let first = string_bytes c.args.out.now in
    let out = string_bytes c.loop-at.out in
    let at = c.loop-at.at in
    let start = c.loop-at.start in
    let is : c.as_bytes-bytes.result.now ≡ text = c.as_bytes-bytes.ensures.value in
    let byte : get_or c.as_bytes-bytes.result.now at 0 ≡ get_or text at 0 = ap (λ bytes. get_or bytes at 0) is in
    let within : at < length text = omega (arith, ap length is) in
    let word : c.is_word-is_after_word.result ≡ is_word (get_or text at 0) = c.is_word-is_after_word.ensures ∙ ap is_word byte in
    let test : is_escaped heading after (get_or text at 0) (drop (at + 1) text) ≡ c.is_escaped.result = seen_escaped heading after c.as_bytes-bytes.result.now text at c.is_escaped.result is c.is_escaped.ensures in
    elim c.if-is_escaped.branch [
      | then-is_escaped+in_ok-push_str+in_ok-push_str-2 w ↦
          let marked : is_escaped heading after (get_or text at 0) (drop (at + 1) text) ≡ true = test ∙ w.if-is_escaped.true in
          let mark = marked_is heading after (get_or text at 0) (drop (at + 1) text) marked in
          let run : string_bytes w.push_str.new.self ≡ out ++ take (at - start) (drop start text) = w.in_ok-push_str.ensures.bytes ∙ ap (λ more. out ++ more) w.range.ensures.value in
          rw (w.out-is, w.start-is, word) (record {
            in_order = omega arith;
            boundary = IsCharBoundary-before_ascii text at within mark.0;
            written = marked_step heading text first out start at after c.loop-at.invariant.in_order within (string_bytes w.push_str.new.self) (string_bytes w.push_str-then-is_escaped.new.self) run w.in_ok-push_str-2.ensures.bytes marked mark.1 c.loop-at.invariant.written;
          })
      | else-is_escaped+then-is_replaced+in_ok-push_str-3+in_ok-push_str-4 w ↦
          let bare : is_escaped heading after (get_or text at 0) (drop (at + 1) text) ≡ false = test ∙ w.if-is_escaped.false in
          let other : (get_or text at 0 == 9 || get_or text at 0 == 10 || get_or text at 0 == 123) ≡ true = ap (λ b. b == 9 || b == 10 || b == 123) (sym byte) ∙ sym w.is_replaced.ensures ∙ w.if-is_replaced.true in
          let stands : stand_for (get_or text at 0) ≡ w.stand_in.result.now = ap stand_for (sym byte) ∙ sym w.stand_in.ensures in
          let run : string_bytes w.push_str-then-is_replaced.new.self ≡ out ++ take (at - start) (drop start text) = w.in_ok-push_str-3.ensures.bytes ∙ ap (λ more. out ++ more) w.range-then-is_replaced.ensures.value in
          rw (w.out-is, w.start-is, word) (record {
            in_order = omega arith;
            boundary = IsCharBoundary-after_ascii text at c.utf8.text within (replaced_small (get_or text at 0) other);
            written = replaced_step heading text first out start at after c.loop-at.invariant.in_order within (string_bytes w.push_str-then-is_replaced.new.self) (string_bytes w.push_str-then-is_replaced-2.new.self) w.stand_in.result.now run w.in_ok-push_str-4.ensures.bytes bare stands c.loop-at.invariant.written;
          })
      | else-is_escaped+else-is_replaced w ↦
          let bare : is_escaped heading after (get_or text at 0) (drop (at + 1) text) ≡ false = test ∙ w.if-is_escaped.false in
          let none : (get_or text at 0 == 9 || get_or text at 0 == 10 || get_or text at 0 == 123) ≡ false = ap (λ b. b == 9 || b == 10 || b == 123) (sym byte) ∙ sym w.is_replaced.ensures ∙ w.if-is_replaced.false in
          rw (w.out-is, w.start-is, word) (record {
            in_order = omega arith;
            boundary = c.loop-at.invariant.boundary;
            written = bare_step heading text first out start at after c.loop-at.invariant.in_order within bare (itself (get_or text at 0) none) c.loop-at.invariant.written;
          })
    ]
