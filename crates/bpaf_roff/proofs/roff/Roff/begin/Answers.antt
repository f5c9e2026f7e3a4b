use Rattle.std.proofs.Common.{◌≡◌, ◌++◌, ◌∙◌, List, ℕ, ap}
use Rattle.bpaf_roff.specs.Escaping.{escaped}
use Rattle.bpaf_roff.specs.Roff.{RoffText, preamble_for, rendering}
use Rattle.bpaf_roff.proofs.lemmas.Scripts.{drained}
use Rattle.bpaf_roff.proofs.roff.Roff.begin.Goals as goal

pub returns : goal.returns
returns g c =
    let q = c.args.apostrophes in
    let run = c.in_ok-escape.ensures.ok in
    let pieces = drained c.iter.result run.0 run.1 ∙ c.iter.ensures in
    let front : c.extend_from_slice.new.self.items ≡ preamble_for q = rw (c.in_ok-extend_from_slice.ensures.items, c.in_ok-out.ensures.items, c.as_bytes.ensures.value) c.preamble.ensures in
    let text : List ℕ → RoffText = λ bytes. record { bytes = bytes; apostrophes = q } in
    let bytes : c.escape.new.out.items ≡ rendering q c.args.self.now.pieces = rw (run.2, front, ← c.self.view_is) (ap (λ ps. preamble_for q ++ escaped q ps) pieces) in
    c.new.ensures ∙ ap text bytes
