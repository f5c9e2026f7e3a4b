use Rattle.std.proofs.Common.{◌≡◌, ◌-◌, ◌++◌, ◌<◌, [], length, take, drop, get_or, string_bytes, sym, ap, ◌∙◌, append-nil, arith, refl}
use Rattle.std.specs.Prelude.{is_ok}
use Rattle.std.proofs.lemmas.Str.{IsCharBoundary-start, IsCharBoundary-after_ascii}
use Rattle.web_page.proofs.Escapes.{extends_more, extends_tried, named_next, plain_next}
use Rattle.web_page.proofs.output.push_escaped.Goals as goal
use Rattle.web_page.proofs.output.push_escaped.Goals.{in-Some+in_ok-push_str+in_ok-push_str-2, in_default}

pub loop-at-init : goal.loop-at-init
loop-at-init g c = record {
  in_order = omega arith;
  boundary = IsCharBoundary-start c.args.text.now c.utf8.text;
  written = refl;
  kept = ([], sym (append-nil (string_bytes c.args.out.now)));
}

pub loop-at-preserved : goal.loop-at-preserved
loop-at-preserved g c =
    let text = c.args.text.now in
    let at = c.loop-at.at in
    let is : c.as_bytes-bytes.result.now ≡ text = c.as_bytes-bytes.ensures.value in
    let byte : get_or c.as_bytes-bytes.result.now at 0 ≡ get_or text at 0 = ap (λ bytes. get_or bytes at 0) is in
    let within : at < length text = omega (arith, ap length is) in
    elim c.match-escape_of.branch [
      | in-Some+in_ok-push_str+in_ok-push_str-2 w ↦
          let small : get_or text at 0 < 128 = rw byte at w.in-Some.ensures.0 in
          let run : string_bytes w.push_str.new.self ≡ string_bytes c.loop-at.out ++ take (at - c.loop-at.start) (drop c.loop-at.start text) = w.in_ok-push_str.ensures.bytes ∙ ap (λ more. string_bytes c.loop-at.out ++ more) w.range.ensures.value in
          rw (w.out-is, w.start-is) (record {
            in_order = omega arith;
            boundary = IsCharBoundary-after_ascii text at c.utf8.text within small;
            written = named_next c.args.in_value text (string_bytes c.loop-at.out) (string_bytes c.args.out.now) (string_bytes w.push_str.new.self) (string_bytes w.push_str-in-Some.new.self) w.in-Some.name.now c.loop-at.start at within (rw byte at w.in-Some.ensures.1) run (w.in_ok-push_str-2.ensures.bytes) c.loop-at.invariant.written;
            kept = extends_more (string_bytes c.args.out.now) (string_bytes w.push_str.new.self) (string_bytes w.push_str-in-Some.new.self) w.in-Some.name.now (extends_more (string_bytes c.args.out.now) (string_bytes c.loop-at.out) (string_bytes w.push_str.new.self) (take (at - c.loop-at.start) (drop c.loop-at.start text)) c.loop-at.invariant.kept run) w.in_ok-push_str-2.ensures.bytes;
          })
      | in_default w ↦
          rw (w.out-is, w.start-is) (record {
            in_order = omega arith;
            boundary = c.loop-at.invariant.boundary;
            written = plain_next c.args.in_value text (string_bytes c.loop-at.out) (string_bytes c.args.out.now) c.loop-at.start at c.loop-at.invariant.in_order within (rw byte at w.in_default.ensures) c.loop-at.invariant.written;
            kept = c.loop-at.invariant.kept;
          })
    ]

pub returns-clause-kept : goal.returns-clause-kept
returns-clause-kept g c = extends_tried (string_bytes c.args.out.now) (string_bytes c.loop-at.out) (string_bytes c.push_str-2.new.self) c.range_from.result.now (is_ok c.push_str-2.result) c.loop-at.invariant.kept c.push_str-2.ensures.bytes
