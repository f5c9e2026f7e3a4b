use Rattle.std.specs.Prelude.{◌+◌, ◌-◌, ◌≡◌}
use Rattle.bpaf_doc.proofs.lemmas.Buffer.Words.{map, length, string_bytes, arith, ap, length-append, subst, AreEnds, moved}
use Rattle.bpaf_doc.proofs.lemmas.Buffer.Ends.{AreEnds-append, AreEnds-moved, CanMove-AreEnds, parts_from-append, parts_from-moved}
use Rattle.bpaf_doc.proofs.buffer.Doc.push_parts.Goals as goal

pub push_moved-requires-clause-fits : goal.push_moved-requires-clause-fits
push_moved-requires-clause-fits g c =
    let parts = c.parts.inside in
    let bytes = string_bytes c.self.inside.payload in
    let written = c.in_ok-push_str.ensures.bytes in
    CanMove-AreEnds parts.start c.len-start.result parts.start parts.ends.now parts.text.now (omega arith) c.parts.invariant
    (omega (arith, c.len-start.ensures, ap length written, length-append bytes parts.text.now, c.push_str.new.self.bytes.small, c.push_str.new.self.bytes.ok))

pub invariant_of-self-2 : goal.invariant_of-self-2
invariant_of-self-2 g c =
    let doc = c.self.inside in
    let parts = c.parts.inside in
    let bytes = string_bytes doc.payload in
    let at_end : parts.start - parts.start + c.len-start.result ≡ 0 + length bytes = omega (arith, c.len-start.ensures) in
    let also = subst (λ start. AreEnds start (map (moved parts.start c.len-start.result) parts.ends.now) parts.text.now) at_end
    (AreEnds-moved parts.start c.len-start.result parts.start parts.ends.now parts.text.now (omega arith) c.parts.invariant) in
    rw (c.push_moved.ensures, c.reserve.ensures.items, c.in_ok-push_str.ensures.bytes)
    (AreEnds-append 0 doc.ends.items (map (moved parts.start c.len-start.result) parts.ends.now) bytes parts.text.now c.self.invariant also)

pub returns-clause-ok : goal.returns-clause-ok
returns-clause-ok g c = grind (arith, parts_from-moved, parts_from-append)
