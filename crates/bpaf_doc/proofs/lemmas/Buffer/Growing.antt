-- A document that grows by one write after another.
use Rattle.std.specs.Prelude.{◌++◌, ◌≡◌}
use Rattle.bpaf_doc.proofs.lemmas.Buffer.Words.{arith, List, sym, ap, ◌∙◌, Result, OnErr, OnOk, fold-append, Grows, IsCheckpointOf, Reached, RollsBack, Part, IsWellNested, Write, with_write, with_writes}

-- what holds anyway holds on an error
pub on_err : {T E P : Type 0} (r : Result T E) → P → OnErr r P
on_err s p = grind arith

pub Grows-more : (ps qs rs : List Part) (ws : List Write) → Grows ps qs → rs ≡ with_writes qs ws → Grows ps rs
Grows-more ps qs rs ws (vs, is) also = (vs ++ ws, also ∙ ap (λ xs. with_writes xs ws) is ∙ sym (fold-append with_write ps vs ws))

pub Grows-grown : (ps qs rs : List Part) → Grows ps qs → Grows qs rs → Grows ps rs
Grows-grown ps qs rs grown (ws, is) = Grows-more ps qs rs ws grown is

-- a settled write leaves a well-nested document, if it does so where it is not undone
pub settled_nested : {T E : Type 0} (r : Result T E) {before after new : List Part} (written : List Part) {at : Reached} → OnOk r (written ≡ new) → OnErr r (Grows before written)
    → IsCheckpointOf before at → OnOk r (after ≡ written) → OnErr r (RollsBack at written after) → IsWellNested before → IsWellNested new → IsWellNested after
settled_nested s written is grows at kept back nested also = grind arith
