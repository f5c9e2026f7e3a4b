use Rattle.std.proofs.Common.{◌≡◌, List, ℕ, ◌∷◌, lit<, None}
use Rattle.std.proofs.lemmas.Str.Pattern.{strip_prefix_char}
use Rattle.std.proofs.lemmas.Bool.{false≢true}
use Rattle.bpaf_meta.proofs.item.is_short.Goals as goal

pub returns-in-None : goal.returns-in-None
returns-in-None c =
    let text : List ℕ = c.args.text.now in
    let apart : (rest : List ℕ) → text ≡ 45 ∷ rest → ⊥ = strip_prefix_char 45 text None c.in-None.ensures.cases (lit< tt) in
    ((λ e. absurd (false≢true e)), λ e. absurd (apart _ e))
