use Rattle.std.specs.Prelude.{◌+◌, ◌≡◌}
use Rattle.bpaf_doc.proofs.lemmas.Buffer.Words.{[], length, refl, string_bytes, arith, IsUtf8-string_bytes}
use Rattle.bpaf_doc.specs.declared.buffer.Style.TheVariants as style
use Rattle.bpaf_doc.proofs.lemmas.Buffer.Ends.{AreEnds-with_text_end}
use Rattle.bpaf_doc.proofs.buffer.Doc.from_string.Goals as goal

pub invariant_of-result : goal.invariant_of-result
invariant_of-result g c =
    let text = string_bytes c.args.text in
    let at_end : c.len.result ≡ 0 + (0 + length text) = omega (arith, c.len.ensures) in
    rw (c.in_ok-push.ensures.items, c.new-ends.ensures.items) (AreEnds-with_text_end style.Text text (IsUtf8-string_bytes c.args.text) 0 c.len.result [] [] at_end refl)
