use Rattle.std.proofs.Common.{◌≡◌, ◌+◌, length, string_bytes, ap, subst, arith, length-append}
use Rattle.std.proofs.lemmas.Str.{IsUtf8-string_bytes}
use Rattle.std.specs.Prelude.{encode_utf8}
use Rattle.std.specs.Str.{IsUtf8}
use Rattle.bpaf_roff.proofs.lemmas.Labels.{Cuts-with_label, IsUtf8-added}
use Rattle.bpaf_roff.proofs.monoid.FreeMonoid.append_char.Goals as goal

pub invariant_of-self-2 : goal.invariant_of-self-2
invariant_of-self-2 g c =
    let labels = c.self.inside.labels.items in
    let payload = string_bytes c.self.inside.payload in
    let end : c.len.result ≡ length payload + length (encode_utf8 c.args.text) = omega (arith, c.len.ensures, c.push.new.self.bytes.ok, ap length c.in_ok-push.ensures.bytes, length-append payload (encode_utf8 c.args.text)) in
    let utf8 : IsUtf8 (encode_utf8 c.args.text) = IsUtf8-added payload (encode_utf8 c.args.text) (IsUtf8-string_bytes c.self.inside.payload) (subst IsUtf8 c.in_ok-push.ensures.bytes (IsUtf8-string_bytes c.push.new.self)) in
    rw (c.push_label.ensures, c.reserve.ensures.items, c.in_ok-push.ensures.bytes)
    (Cuts-with_label g.T.PartialEq.eq c.self.inside.squash c.args.label (encode_utf8 c.args.text) utf8 labels 0 payload c.len.result c.self.invariant (omega arith))
