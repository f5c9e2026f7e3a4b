-- The options of a line, one after another.
use Rattle.std.proofs.Common.{◌≡◌, ℕ, suc, zero, ◌-◌, ◌<◌, List, [], ◌∷◌, ◌++◌, Option, None, Some, append-nil, append_assoc, ap, ◌∙◌, arith, map, refl, sym}
use Rattle.std.specs.Option.{option_map}
use Rattle.std.proofs.lemmas.List.{map-append}
use Rattle.help_fronts.specs.declared.option.OptionFront.{OptionFront}
use Rattle.help_fronts.specs.Fronts.{FrontSaid, option_front}
use Rattle.help_fronts.specs.View.{said}
use Rattle.drafts.specs.declared.free.FreeFront.{FreeFront}
use Rattle.drafts.specs.Free.{FreeSaid, Has, free_front, free_fronts, front_keys, fronts, fronts_by, next_text, with_keys}
use Rattle.drafts.specs.View.{free_said}

none_follow : (n : ℕ) (rest : List ℕ) → option_front rest ≡ None → fronts n rest ≡ []
none_follow zero rest h = refl
none_follow (suc n) rest h = ap (fronts_by (fronts n)) h

one_follows : (n : ℕ) (rest : List ℕ) (f : FrontSaid) → 0 < n → option_front rest ≡ Some f → fronts n rest ≡ f ∷ fronts (n - 1) (next_text f)
one_follows zero rest f h read = absurd (omega arith)
one_follows (suc n) rest f h read =
    let low : suc n - 1 ≡ n = omega arith in
    ap (fronts_by (fronts n)) read ∙ ap (λ k. f ∷ fronts k (next_text f)) (sym low)

-- no option stands in the rest
pub fronts_done : {A : Type 0} (o : Option (OptionFront A)) (has seen : Has) (found : List FreeSaid) (n : ℕ) (rest : List ℕ) (whole : List FreeSaid) → o ≡ None → option_map said o ≡ option_front rest
    → found ++ free_fronts has seen (fronts n rest) ≡ whole → found ≡ whole
fronts_done o has seen found n rest whole none read so_far =
    sym (append-nil found) ∙ ap (λ fs. found ++ free_fronts has seen fs) (sym (none_follow n rest (sym read ∙ ap (option_map said) none))) ∙ so_far

-- one does
pub fronts_more : {A : Type 0} (o : Option (OptionFront A)) (front : OptionFront A) (has seen seen2 : Has) (free : FreeFront A) (found more : List (FreeFront A)) (n : ℕ) (rest next : List ℕ) (whole : List FreeSaid) → 0 < n
    → o ≡ Some front → option_map said o ≡ option_front rest → next ≡ next_text (said front) → free_said free ≡ free_front has seen (said front) → seen2 ≡ with_keys seen (front_keys (said front))
    → more ≡ found ++ free ∷ [] → map free_said found ++ free_fronts has seen (fronts n rest) ≡ whole → map free_said more ++ free_fronts has seen2 (fronts (n - 1) next) ≡ whole
fronts_more o front has seen seen2 free found more n rest next whole h some read is freed then put so_far =
    let after = free_fronts has (with_keys seen (front_keys (said front))) (fronts (n - 1) (next_text (said front))) in
    ap (λ fs. map free_said fs ++ free_fronts has seen2 (fronts (n - 1) next)) put
    ∙ ap (λ fs. fs ++ free_fronts has seen2 (fronts (n - 1) next)) (map-append free_said found (free ∷ []))
    ∙ ap (λ s. (map free_said found ++ free_said free ∷ []) ++ free_fronts has s (fronts (n - 1) next)) then
    ∙ ap (λ t. (map free_said found ++ free_said free ∷ []) ++ free_fronts has (with_keys seen (front_keys (said front))) (fronts (n - 1) t)) is
    ∙ append_assoc (map free_said found) (free_said free ∷ []) after
    ∙ ap (λ f. map free_said found ++ f ∷ after) freed
    ∙ ap (λ fs. map free_said found ++ free_fronts has seen fs) (sym (one_follows n rest (said front) h (sym read ∙ ap (option_map said) some)))
    ∙ so_far
