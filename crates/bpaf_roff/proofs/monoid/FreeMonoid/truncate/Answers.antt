use Rattle.std.proofs.Common.{◌≡◌, ◌-◌, take, string_bytes, ap, arith}
use Rattle.bpaf_roff.specs.Steps.Labels.{end_of}
use Rattle.bpaf_roff.proofs.lemmas.Labels.{labelled, pieces_of-take, Cuts-take}
use Rattle.bpaf_roff.proofs.monoid.FreeMonoid.truncate.Goals as goal

pub invariant_of-self : goal.invariant_of-self
invariant_of-self g c =
    let m = c.self.inside in
    let end : c.end_of_last-end.result ≡ end_of 0 (take c.args.count m.labels.items) - 0 = rw (c.end_of_last-end.ensures, c.as_slice.ensures.value, c.truncate.ensures.items) (omega arith) in
    rw (c.truncate-2.ensures.bytes, c.truncate.ensures.items, end) (Cuts-take c.args.count m.labels.items 0 (string_bytes m.payload) c.self.invariant)

pub returns : goal.returns
returns g c =
    let m = c.self.inside in
    let end : c.end_of_last-end.result ≡ end_of 0 (take c.args.count m.labels.items) - 0 = rw (c.end_of_last-end.ensures, c.as_slice.ensures.value, c.truncate.ensures.items) (omega arith) in
    rw (c.truncate-2.ensures.bytes, c.truncate.ensures.items, end, ← c.self.view_is)
    (ap (labelled m.squash) (pieces_of-take c.args.count m.labels.items 0 (string_bytes m.payload) c.self.invariant))
