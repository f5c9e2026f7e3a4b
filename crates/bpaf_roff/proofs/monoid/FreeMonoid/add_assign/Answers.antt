use Rattle.std.proofs.Common.{◌≡◌, ◌^◌, string_bytes, length, arith, refl}
use Rattle.bpaf_roff.proofs.lemmas.Clones.{sum_shown, IsSumOf-same}
use Rattle.bpaf_roff.proofs.lemmas.Labels.{ends_fit}
use Rattle.bpaf_roff.proofs.monoid.FreeMonoid.add_assign.Goals as goal

pub append_labels-requires : goal.append_labels-requires
append_labels-requires g c =
    let mine = c.self.inside.payload.bytes in
    let theirs = c.other.inside.payload.bytes in
    rw c.as_slice.ensures.value (ends_fit c.len-shift.result (2 ^ 64) c.other.inside.labels.items 0 (string_bytes c.other.inside.payload) c.other.invariant (omega (arith, c.len-shift.ensures, mine.small, mine.ok, theirs.small, theirs.ok)))

is_sum : goal.returns-clause-ok
is_sum g c =
    let m = c.self.inside in
    let n = c.other.inside in
    let place : c.len-shift.result ≡ length (string_bytes m.payload) = omega (arith, c.len-shift.ensures, m.payload.bytes.ok) in
    rw (c.in_default.ensures.bytes, c.as_str.ensures.value, ← c.self.view_is)
    (sum_shown g.T.Clone.is_clone m.squash m.labels.items n.labels.items c.append_labels.new.labels.items c.len-shift.result (string_bytes m.payload) (string_bytes n.payload) c.args.other.now c.self.invariant c.other.invariant place
    (rw (← c.other.view_is) refl) (rw c.as_slice.ensures.value at c.in_ok-append_labels.ensures.ok))

pub returns-clause-ok : goal.returns-clause-ok
returns-clause-ok g c = is_sum g c

pub returns-clause-exact : goal.returns-clause-exact
returns-clause-exact g c = λ same. IsSumOf-same g.T.Clone.is_clone same _ _ _ (is_sum g c)
