-- Lines with prefixes.
use Rattle.std.proofs.Common.{◌≡◌, ℕ, suc, ◌<◌, ◌==◌, Bool, true, false, List, [], ◌∷◌, ◌++◌, length, get_or, append_assoc, arith, refl, sym, ap, ◌∙◌}
use Rattle.std.specs.Prelude.{Result, Ok, Err, OnOk, codes}
use Rattle.std.proofs.lemmas.Bool.{ne_eqb}
use Rattle.console_page.specs.Lines.{prefixed, fronted}

-- a line has no newline in it
abbrev pub IsLine : List ℕ → Type 0
IsLine line = (i : ℕ) → i < length line → ¬ (get_or line i 0 ≡ 10)

passes : (t : Bool) (b : ℕ) (first others text : List ℕ) → t ≡ false → (elim t as (λ _. List ℕ) [ true ↦ 10 ∷ prefixed others others text | false ↦ first ++ (b ∷ prefixed [] others text) ]) ≡ first ++ (b ∷ prefixed [] others text)
passes true b first others text h = absurd cc
passes false b first others text h = refl

pub byte_prefixed : (first others : List ℕ) (b : ℕ) (text : List ℕ) → ¬ (b ≡ 10) → prefixed first others (b ∷ text) ≡ first ++ (b ∷ prefixed [] others text)
byte_prefixed first others b text h = passes (b == 10) b first others text (ne_eqb b 10 h)

bare : (line : List ℕ) → fronted [] line ≡ line
bare [] = refl
bare (b ∷ line) = refl

pub line_prefixed : (first others line rest : List ℕ) → IsLine line → prefixed first others (line ++ (10 ∷ rest)) ≡ fronted first line ++ (10 ∷ prefixed others others rest)
line_prefixed first others [] rest h = refl
line_prefixed first others (b ∷ line) rest h =
    byte_prefixed first others b (line ++ (10 ∷ rest)) (h 0 (omega arith))
    ∙ ap (λ more. first ++ (b ∷ more)) (line_prefixed [] others line rest (λ i below. h (suc i) (omega arith)) ∙ ap (λ xs. xs ++ (10 ∷ prefixed others others rest)) (bare line))
    ∙ sym (append_assoc first (b ∷ line) (10 ∷ prefixed others others rest))

pub last_prefixed : (first others line : List ℕ) → IsLine line → prefixed first others line ≡ fronted first line
last_prefixed first others [] h = refl
last_prefixed first others (b ∷ line) h =
    byte_prefixed first others b line (h 0 (omega arith))
    ∙ ap (λ more. first ++ (b ∷ more)) (last_prefixed [] others line (λ i below. h (suc i) (omega arith)) ∙ bare line)

-- a step of the loop that writes them
pub line_step : (out mid new front others rest line below whole : List ℕ) → rest ≡ line ++ (10 ∷ below) → IsLine line → mid ≡ out ++ fronted front line → new ≡ mid ++ codes "\n" → out ++ prefixed front others rest ≡ whole → new ++ prefixed others others below ≡ whole
line_step out mid new front others rest line below whole is free m n w =
    ap (λ x. x ++ prefixed others others below) (n ∙ ap (λ x. x ++ codes "\n") m)
    ∙ append_assoc (out ++ fronted front line) (codes "\n") (prefixed others others below)
    ∙ append_assoc out (fronted front line) (10 ∷ prefixed others others below)
    ∙ ap (λ x. out ++ x) (sym (ap (prefixed front others) is ∙ line_prefixed front others line below free))
    ∙ w

pub last_step : {T E : Type 0} (r : Result T E) (out new front others rest whole : List ℕ) → IsLine rest → OnOk r (new ≡ out ++ fronted front rest) → out ++ prefixed front others rest ≡ whole → OnOk r (new ≡ whole)
last_step (Ok v) out new front others rest whole free n w = n ∙ ap (λ x. out ++ x) (sym (last_prefixed front others rest free)) ∙ w
last_step (Err e) out new front others rest whole free n w = tt
