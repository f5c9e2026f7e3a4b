use Rattle.std.proofs.Common.{◌≡◌, ◌+◌, length, string_bytes, arith}
use Rattle.bpaf_doc.proofs.lemmas.Buffer.Ends.{AreEnds-push_empty, parts_from-push_empty}
use Rattle.bpaf_doc.proofs.buffer.Doc.push_empty.Goals as goal

pub invariant_of-self-2 : goal.invariant_of-self-2
invariant_of-self-2 g c =
    let doc = c.self.inside in
    let bytes = string_bytes doc.payload in
    let at_end : c.len-end.result ≡ 0 + length bytes = omega (arith, c.len-end.ensures) in
    rw (c.in_ok-push.ensures.items, at_end) (AreEnds-push_empty 0 doc.ends.items bytes c.args.kind c.self.invariant)

pub returns-clause-ok : goal.returns-clause-ok
returns-clause-ok g c =
    let doc = c.self.inside in
    let bytes = string_bytes doc.payload in
    let at_end : c.len-end.result ≡ 0 + length bytes = omega (arith, c.len-end.ensures) in
    rw (c.in_ok-push.ensures.items, at_end, ← c.self.view_is) (parts_from-push_empty 0 doc.ends.items bytes c.args.kind c.self.invariant)
