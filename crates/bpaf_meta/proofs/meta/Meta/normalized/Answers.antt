use Rattle.std.proofs.Common.{◌≡◌, ◌↔◌, Bool, true, Result, IfOk, arith}
use Rattle.std.specs.declared.alloc.AllocError.{AllocError}
use Rattle.bpaf_meta.specs.Content.{Tree, skip}
use Rattle.bpaf_meta.specs.View.{tree_of}
use Rattle.bpaf_meta.specs.declared.meta.Meta.{Meta}
use Rattle.bpaf_meta.specs.Meta.Normal.{normalized}
use Rattle.bpaf_meta.specs.Meta.Sequences.{is_hidden}
use Rattle.bpaf_meta.specs.Meta.Shape.{HasStrict}
use Rattle.bpaf_meta.proofs.lemmas.Normal.Plain.{normalized_skip}
use Rattle.bpaf_meta.proofs.lemmas.Normal.Twice.{normalized_twice}
use Rattle.bpaf_meta.proofs.meta.Meta.normalized.Goals as goal

-- what holds of the tree of the table holds of the answer
of_table : {A : Type 0} (u : Bool) (t : Tree) (r : Result (Meta A) AllocError) (P : Tree → Type 0) → P (normalized u t) → IfOk r (λ m. tree_of m ≡ normalized u t) → IfOk r (λ m. P (tree_of m))
of_table u t r P h4 h5 = grind arith

pub returns-clause-twice : goal.returns-clause-twice
returns-clause-twice g c =
    let u = c.args.for_usage in
    let t = tree_of c.args.self.now in
    of_table u t c.form_of_table.result (λ n. ¬ HasStrict t → normalized u n ≡ n) (normalized_twice u t) c.form_of_table.ensures

pub returns-clause-skip : goal.returns-clause-skip
returns-clause-skip g c =
    let u = c.args.for_usage in
    let t = tree_of c.args.self.now in
    of_table u t c.form_of_table.result (λ n. ¬ HasStrict t → (n ≡ skip) ↔ (is_hidden u t ≡ true)) (normalized_skip u t) c.form_of_table.ensures
