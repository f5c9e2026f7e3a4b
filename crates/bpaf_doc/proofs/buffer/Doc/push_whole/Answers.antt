use Rattle.std.specs.Prelude.{◌++◌, ◌+◌, ◌∷◌, ◌≡◌}
use Rattle.bpaf_doc.proofs.lemmas.Buffer.Words.{[], length, string_bytes, arith, ap, length-append, ◌∙◌, parts_from, text_end}
use Rattle.bpaf_doc.proofs.lemmas.Buffer.Ends.{AreEnds-append, alone_are, parts_from-append, text_alone}
use Rattle.bpaf_doc.proofs.buffer.Doc.push_whole.Goals as goal

pub invariant_of-self-2 : goal.invariant_of-self-2
invariant_of-self-2 g c =
    let doc = c.self.inside in
    let bytes = string_bytes doc.payload in
    let text = c.args.text.now in
    let written = c.in_ok-push_str.ensures.bytes in
    let at_end : c.len.result ≡ (0 + length bytes) + length text = omega (arith, c.len.ensures, ap length written, length-append bytes text) in
    rw (c.push_reserved.ensures.items, c.reserve.ensures.items, written)
    (AreEnds-append 0 doc.ends.items (text_end c.args.style c.len.result ∷ []) bytes text c.self.invariant (alone_are c.args.style text c.utf8.text (0 + length bytes) c.len.result at_end))

pub returns-clause-ok : goal.returns-clause-ok
returns-clause-ok g c =
    let doc = c.self.inside in
    let bytes = string_bytes doc.payload in
    let text = c.args.text.now in
    let written = c.in_ok-push_str.ensures.bytes in
    let at_end : c.len.result ≡ (0 + length bytes) + length text = omega (arith, c.len.ensures, ap length written, length-append bytes text) in
    rw (c.push_reserved.ensures.items, c.reserve.ensures.items, written, ← c.self.view_is)
    (parts_from-append 0 doc.ends.items (text_end c.args.style c.len.result ∷ []) bytes text c.self.invariant
    ∙ ap (λ ps. parts_from 0 doc.ends.items bytes ++ ps) (text_alone c.args.style text (0 + length bytes) c.len.result at_end))
