use Rattle.std.proofs.Common.{◌≡◌, ◌-◌, ◌++◌, ◌<◌, length, take, drop, get_or, string_bytes, true, false, sym, ap, ◌∙◌, arith}
use Rattle.std.proofs.lemmas.Str.{IsCharBoundary-start, IsCharBoundary-after_ascii}
use Rattle.console_page.specs.Usage.{cut_bars, is_cut}
use Rattle.console_page.proofs.Bars.{cut_blank, cut_there, kept_next}
use Rattle.console_page.proofs.cuts.push_cut_at.Goals as goal
use Rattle.console_page.proofs.cuts.push_cut_at.Goals.{then-is_cut+in_ok-push_str+in_ok-push_str-2, else-is_cut}

pub loop-at-init : goal.loop-at-init
loop-at-init g c = record {
  in_order = omega arith;
  boundary = IsCharBoundary-start c.args.item.now c.utf8.item;
  written = ap (λ n. string_bytes c.args.out.now ++ cut_bars c.args.least n false c.args.item.now) (ap length c.as_bytes-bytes.ensures.value);
}

pub loop-at-preserved : goal.loop-at-preserved
loop-at-preserved g c =
    let item = c.args.item.now in
    let at = c.loop-at.at in
    let least = c.args.least in
    let depth = c.loop-at.depth in
    let after = c.loop-at.is_after_bar in
    let is : c.as_bytes-bytes.result.now ≡ item = c.as_bytes-bytes.ensures.value in
    let byte : get_or c.as_bytes-bytes.result.now at 0 ≡ get_or item at 0 = ap (λ bytes. get_or bytes at 0) is in
    let within : at < length item = omega (arith, ap length is) in
    let tested : c.is_cut.result ≡ is_cut least depth after (get_or item at 0) = c.is_cut.ensures ∙ ap (is_cut least depth after) byte in
    elim c.if-is_cut.branch [
      | then-is_cut+in_ok-push_str+in_ok-push_str-2 w ↦
          let goes : is_cut least depth after (get_or item at 0) ≡ true = sym tested ∙ w.if-is_cut.true in
          let run : string_bytes w.push_str.new.self ≡ string_bytes c.loop-at.out ++ take (at - c.loop-at.start) (drop c.loop-at.start item) = w.in_ok-push_str.ensures.bytes ∙ ap (λ more. string_bytes c.loop-at.out ++ more) w.range.ensures.value in
          rw (w.out-is, w.start-is, c.depth_after-depth.ensures, byte) (record {
            in_order = omega arith;
            boundary = IsCharBoundary-after_ascii item at c.utf8.item within (cut_blank least depth after (get_or item at 0) goes);
            written = cut_there least depth after item (string_bytes c.loop-at.out) (string_bytes w.push_str.new.self) (string_bytes w.push_str-then-is_cut.new.self) _ c.loop-at.start at within goes run w.in_ok-push_str-2.ensures.bytes c.loop-at.invariant.written;
          })
      | else-is_cut w ↦
          let stays : is_cut least depth after (get_or item at 0) ≡ false = sym tested ∙ w.if-is_cut.false in
          rw (w.out-is, w.start-is, c.depth_after-depth.ensures, byte) (record {
            in_order = omega arith;
            boundary = c.loop-at.invariant.boundary;
            written = kept_next least depth after item (string_bytes c.loop-at.out) _ c.loop-at.start at c.loop-at.invariant.in_order within stays c.loop-at.invariant.written;
          })
    ]
