use Rattle.std.proofs.Common.{◌≡◌, ◌+◌, ◌++◌, ◌∙◌, length, map, take, sym, ap, subst, refl, arith, rules, string_bytes, take_all, length-append}
use Rattle.std.proofs.lemmas.List.{take-append-le, map-append}
use Rattle.std.proofs.lemmas.Grind.{common_steps}
use Rattle.std.proofs.lemmas.Str.{IsCharBoundary-from_take, IsUtf8-string_bytes}
use Rattle.std.specs.Str.{IsUtf8}
use Rattle.bpaf_roff.specs.Pieces.{with_text, labelled_text}
use Rattle.bpaf_roff.specs.Steps.Labels.{with_label}
use Rattle.bpaf_roff.proofs.lemmas.Labels.{ending_at-same, ending_at-with_label, length-with_label, Cuts-with_label, labelled-with_label, with_texts-push, IsUtf8-added}
use Rattle.bpaf_roff.proofs.monoid.FreeMonoid.extend.Goals as goal
use Rattle.bpaf_roff.proofs.monoid.FreeMonoid.extend.Goals.{then-is_err-via-then-is_err, then-is_err-via-else-is_err+then-is_err-2}

pub loop-label-init : goal.loop-label-init
loop-label-init g c =
    let labels = c.self.inside.labels.items in
    let payload = string_bytes c.self.inside.payload in
    let count : c.len-count.result ≡ length labels = omega (arith, c.len-count.ensures, c.self.inside.labels.ok.0) in
    let end : c.len-end.result ≡ length payload = omega (arith, c.len-end.ensures, c.self.inside.payload.bytes.ok) in
    record {
      can = search rules;
      finite = search rules;
      squash = refl;
      labels = rw (count, take_all (length labels) labels (omega arith)) (ending_at-same labels 0 payload c.len-end.result c.self.invariant (omega arith));
      payload = take_all c.len-end.result payload (omega arith);
      count = omega arith;
      end = omega arith;
      cuts = c.self.invariant;
      pieces = c.self.view_is;
    }

pub truncate-requires : goal.truncate-requires
truncate-requires g c =
    let now = c.then-is_err.self-inside.payload in
    let same : string_bytes now ≡ string_bytes c.loop-label.self-inside.payload =
    elim c.then-is_err.branch [ then-is_err-via-then-is_err w ↦ rw w.self-inside-is refl | then-is_err-via-else-is_err+then-is_err-2 w ↦ rw w.self-inside-is (grind (arith, common_steps)) ] in
    let old : take c.len-end.result (string_bytes now) ≡ string_bytes c.self.inside.payload = ap (take c.len-end.result) same ∙ c.loop-label.invariant.payload in
    let cut = IsCharBoundary-from_take (string_bytes now) c.len-end.result (IsUtf8-string_bytes now) (rw same c.loop-label.invariant.end) (subst IsUtf8 (sym old) (IsUtf8-string_bytes c.self.inside.payload)) in
    λ _. (cut.0, λ _. cut.1)

pub loop-label-preserved : goal.loop-label-preserved
loop-label-preserved g c =
    let inv = c.loop-label.invariant in
    let eq = g.T.PartialEq.eq in
    let squash = c.loop-label.self-inside.squash in
    let labels = c.loop-label.self-inside.labels.items in
    let payload = string_bytes c.loop-label.self-inside.payload in
    let text = c.in-Some.text.now in
    let written : string_bytes c.push_str.new.self ≡ payload ++ text = grind (arith, common_steps) in
    let end : c.len.result ≡ length payload + length text = omega (arith, c.len.ensures, c.push_str.new.self.bytes.ok, ap length written, length-append payload text) in
    let put : c.push_label.new.labels.items ≡ with_label eq squash labels c.in-Some.label c.len.result = rw (c.push_label.ensures, c.reserve.ensures.items) refl in
    let utf8 : IsUtf8 text = IsUtf8-added payload text (IsUtf8-string_bytes c.loop-label.self-inside.payload) (subst IsUtf8 written (IsUtf8-string_bytes c.push_str.new.self)) in
    let later = ap (λ m. with_text eq m c.in-Some.label text) inv.pieces ∙ sym (with_texts-push eq c.args.self.now (map labelled_text c.loop-label.yielded) (c.in-Some.label, text)) in
    record {
      can = search rules;
      finite = search rules;
      squash = inv.squash;
      labels = rw put (ending_at-with_label eq squash c.in-Some.label c.len.result c.len-end.result c.len-count.result labels inv.count ∙ inv.labels);
      payload = rw (written, take-append-le c.len-end.result payload text inv.end) inv.payload;
      count = rw put (omega (arith, inv.count, length-with_label eq squash c.in-Some.label c.len.result 0 labels));
      end = rw written (omega (arith, inv.end, length-append payload text));
      cuts = rw (put, written) (Cuts-with_label eq squash c.in-Some.label text utf8 labels 0 payload c.len.result inv.cuts (omega arith));
      pieces = rw (put, written, map-append labelled_text c.loop-label.yielded) (labelled-with_label eq squash c.in-Some.label text labels payload c.len.result inv.cuts end ∙ later);
    }
