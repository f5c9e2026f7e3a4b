use Rattle.std.specs.Prelude.{◌<◌, ◌==◌, ◌≡◌}
use Rattle.bpaf_doc.proofs.lemmas.Splitter.Words.{false, ℕ, List, length, get_or, subst, sym, ◌∙◌, ap, arith, IsCharBoundary-after_ascii}
use Rattle.bpaf_doc.proofs.splitter.strip_byte.Goals as goal

some : (bytes : List ℕ) → (length bytes == 0) ≡ false → 0 < length bytes
some bytes h1 = grind arith

pub split_at-requires : goal.split_at-requires
split_at-requires c =
    let same = c.as_bytes-bytes.ensures.value in
    let inside : 0 < length c.args.text.now = subst (λ t. 0 < length t) same (some c.as_bytes-bytes.result.now (sym c.is_empty.ensures ∙ c.if-is_empty.false)) in
    let first : get_or c.args.text.now 0 0 ≡ c.args.byte = ap (λ t. get_or t 0 0) (sym same) ∙ c.if-bytes-byte.false in
    IsCharBoundary-after_ascii c.args.text.now 0 c.utf8.text inside (omega (arith, first, c.requires))
