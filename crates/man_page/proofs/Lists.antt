-- Texts of the items of a list, one after another.
use Rattle.std.proofs.Common.{◌≡◌, ℕ, ◌+◌, ◌<◌, List, [], ◌∷◌, ◌++◌, length, append-nil, append_assoc, sym, ap, ◌∙◌, get_or, map, take}
use Rattle.std.specs.Prelude.{flat_map}
use Rattle.std.proofs.lemmas.List.{take_more, map-append}
use Rattle.std.proofs.lemmas.List.Concat.{flat_map-append}

pub seen_more : {X Y : Type 0} (f : Y → List ℕ) (see : X → Y) (xs : List X) (i : ℕ) (d : X) → i < length xs → flat_map f (map see (take (i + 1) xs)) ≡ flat_map f (map see (take i xs)) ++ f (see (get_or xs i d))
seen_more f see xs i d h =
    ap (λ ys. flat_map f (map see ys)) (take_more xs i d h)
    ∙ ap (flat_map f) (map-append see (take i xs) (get_or xs i d ∷ []))
    ∙ flat_map-append f (map see (take i xs)) (see (get_or xs i d) ∷ [])
    ∙ ap (λ more. flat_map f (map see (take i xs)) ++ more) (append-nil (f (see (get_or xs i d))))

-- a step of a loop that writes them
pub seen_step : {X Y : Type 0} (f : Y → List ℕ) (xs : List X) (see : X → Y) (i : ℕ) (d : X) (out before new : List ℕ) → i < length xs → before ≡ out ++ flat_map f (map see (take i xs)) → new ≡ before ++ f (see (get_or xs i d)) → new ≡ out ++ flat_map f (map see (take (i + 1) xs))
seen_step f xs see i d out before new h b n =
    n ∙ ap (λ x. x ++ f (see (get_or xs i d))) b
    ∙ append_assoc out (flat_map f (map see (take i xs))) (f (see (get_or xs i d)))
    ∙ ap (λ x. out ++ x) (sym (seen_more f see xs i d h))
