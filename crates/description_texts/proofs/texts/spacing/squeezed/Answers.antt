use Rattle.std.proofs.Common.{◌≡◌, ◌-◌, ◌++◌, ◌<◌, length, take, drop, string_bytes, ap, ◌∙◌, arith}
use Rattle.std.proofs.lemmas.Str.{IsCharBoundary-start, IsCharBoundary-after_ascii}
use Rattle.description_texts.specs.TextsInside.{squeezed}
use Rattle.description_texts.proofs.TextsSpaces.{named_next, plain_next}
use Rattle.description_texts.proofs.texts.spacing.squeezed.Goals as goal
use Rattle.description_texts.proofs.texts.spacing.squeezed.Goals.{in-Some+in_ok-push_str+in_ok-push_str-2, in_default}

pub loop-at-init : goal.loop-at-init
loop-at-init c = record {
  in_order = omega arith;
  boundary = IsCharBoundary-start c.args.line.now c.utf8.line;
  written = ap (λ out. out ++ squeezed c.args.line.now) c.new-out.ensures.bytes;
}

pub loop-at-preserved : goal.loop-at-preserved
loop-at-preserved c =
    let line = c.args.line.now in
    let at = c.loop-at.at in
    let is : c.as_bytes-bytes.result.now ≡ line = c.as_bytes-bytes.ensures.value in
    let within : at < length line = omega (arith, ap length is) in
    elim c.match-stand_in.branch [
      | in-Some+in_ok-push_str+in_ok-push_str-2 w ↦
          let ensured = rw is at w.in-Some.ensures in
          let run : string_bytes w.push_str.new.self ≡ string_bytes c.loop-at.out ++ take (at - c.loop-at.start) (drop c.loop-at.start line) = w.in_ok-push_str.ensures.bytes ∙ ap (λ more. string_bytes c.loop-at.out ++ more) w.range.ensures.value in
          rw (w.out-is, w.start-is) (record {
            in_order = omega arith;
            boundary = IsCharBoundary-after_ascii line at c.utf8.line within ensured.0;
            written = named_next line (string_bytes c.loop-at.out) (string_bytes w.push_str.new.self) (string_bytes w.push_str-in-Some.new.self) w.in-Some.text.now c.loop-at.start at within ensured.1 run (w.in_ok-push_str-2.ensures.bytes) c.loop-at.invariant.written;
          })
      | in_default w ↦
          let ensured = rw is at w.in_default.ensures in
          rw (w.out-is, w.start-is) (record {
            in_order = omega arith;
            boundary = c.loop-at.invariant.boundary;
            written = plain_next line (string_bytes c.loop-at.out) c.loop-at.start at c.loop-at.invariant.in_order within ensured c.loop-at.invariant.written;
          })
    ]
