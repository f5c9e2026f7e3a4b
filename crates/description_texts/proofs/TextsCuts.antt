-- A list that is cut into parts: its first part, and the others.
use Rattle.std.proofs.Common.{◌≡◌, ℕ, ◌+◌, ◌-◌, ◌<◌, ◌≤◌, zero, suc, Bool, cond, List, [], ◌∷◌, ◌++◌, length, map, take, drop, get_or, arith, refl, sym, ap, ◌∙◌, append_assoc, min}
use Rattle.std.specs.List.{prefix_len}
use Rattle.std.proofs.lemmas.List.{drop-drop, drop_min, drop_more, length-drop, take_min, take-map}
use Rattle.description_texts.specs.TextsCut.{cut, cut_after}

drop_map : {X Z : Type 0} (see : Z → X) (n : ℕ) (zs : List Z) → drop n (map see zs) ≡ map see (drop n zs)
drop_map see zero zs = refl
drop_map see (suc n) [] = refl
drop_map see (suc n) (z ∷ zs) = drop_map see n zs

pub prefix_seen : {X Z : Type 0} (test : X → Bool) (see : Z → X) (zs : List Z) → prefix_len (λ z. test (see z)) zs ≡ prefix_len test (map see zs)
prefix_seen test see [] = refl
prefix_seen test see (z ∷ zs) = ap (λ n. cond (test (see z)) n 0) (ap (λ n. 1 + n) (prefix_seen test see zs))

module _ {X Y : Type 0} (more : X → List X → ℕ) (said : X → List X → List Y) where
  skipped : (n : ℕ) (xs : List X) → cut_after more said n xs ≡ cut more said (drop n xs)
  skipped zero xs = refl
  skipped (suc n) [] = refl
  skipped (suc n) (x ∷ xs) = skipped n xs

  pub cut_first : (x : X) (xs : List X) → cut more said (x ∷ xs) ≡ said x (take (more x xs) xs) ++ cut more said (drop (more x xs) xs)
  cut_first x xs = ap (λ ys. said x (take (more x xs) xs) ++ ys) (skipped (more x xs) xs)

  module _ {Z : Type 0} (see : Z → X) (first : Z) (below rest : List Z) (is : rest ≡ first ∷ below) where
    first_seen : (m : ℕ) → more (see first) (map see below) ≡ m → cut more said (map see rest) ≡ said (see first) (map see (take m below)) ++ cut more said (map see (drop m below))
    first_seen m e =
        ap (λ zs. cut more said (map see zs)) is
        ∙ cut_first (see first) (map see below)
        ∙ ap (λ n. said (see first) (take n (map see below)) ++ cut more said (drop n (map see below))) e
        ∙ ap (λ xs. said (see first) xs ++ cut more said (drop m (map see below))) (take-map see m below)
        ∙ ap (λ xs. said (see first) (map see (take m below)) ++ cut more said xs) (drop_map see m below)

    -- a step of a loop that says the parts one by one
    pub cut_next : (m : ℕ) (out new all : List Y) → m ≡ more (see first) (map see below) → new ≡ out ++ said (see first) (map see (take m below)) → out ++ cut more said (map see rest) ≡ all → new ++ cut more said (map see (drop m below)) ≡ all
    cut_next m out new all e n w =
        ap (λ ys. ys ++ cut more said (map see (drop m below))) n
        ∙ append_assoc out (said (see first) (map see (take m below))) (cut more said (map see (drop m below)))
        ∙ ap (λ ys. out ++ ys) (sym (first_seen m (sym e)))
        ∙ w

    -- the same where no more elements are taken than there are
    pub cut_next_within : (n : ℕ) (out new all : List Y) → n ≡ min (more (see first) (map see below)) (length below) → new ≡ out ++ said (see first) (map see (take n below)) → out ++ cut more said (map see rest) ≡ all → new ++ cut more said (map see (drop n below)) ≡ all
    cut_next_within n out new all e s w =
        let m = more (see first) (map see below) in
        ap (λ zs. new ++ cut more said (map see zs)) (ap (λ k. drop k below) e ∙ drop_min m below)
        ∙ cut_next m out new all refl (s ∙ ap (λ zs. out ++ said (see first) (map see zs)) (ap (λ k. take k below) e ∙ take_min m below)) w

  -- the same, from a place in the list on
  module _ {Z : Type 0} (see : Z → X) (zs : List Z) (at : ℕ) (d : Z) (within : at < length zs) where
    after : (n : ℕ) → drop n (drop (at + 1) zs) ≡ drop (at + (n + 1)) zs
    after n = let place : at + 1 + n ≡ at + (n + 1) = omega arith in drop-drop n (at + 1) zs ∙ ap (λ k. drop k zs) place

    pub cut_at : (n : ℕ) (out new all : List Y) → n ≡ more (see (get_or zs at d)) (map see (drop (at + 1) zs)) → new ≡ out ++ said (see (get_or zs at d)) (map see (take n (drop (at + 1) zs))) → out ++ cut more said (map see (drop at zs)) ≡ all
        → new ++ cut more said (map see (drop (at + (n + 1)) zs)) ≡ all
    cut_at n out new all e s w =
        ap (λ ys. new ++ cut more said (map see ys)) (sym (after n))
        ∙ cut_next see (get_or zs at d) (drop (at + 1) zs) (drop at zs) (drop_more zs at d within) n out new all e s w

    pub cut_at_within : (n : ℕ) (out new all : List Y) → n ≡ min (more (see (get_or zs at d)) (map see (drop (at + 1) zs))) (length (drop (at + 1) zs)) → new ≡ out ++ said (see (get_or zs at d)) (map see (take n (drop (at + 1) zs))) → out ++ cut more said (map see (drop at zs)) ≡ all
        → new ++ cut more said (map see (drop (at + (n + 1)) zs)) ≡ all
    cut_at_within n out new all e s w =
        ap (λ ys. new ++ cut more said (map see ys)) (sym (after n))
        ∙ cut_next_within see (get_or zs at d) (drop (at + 1) zs) (drop at zs) (drop_more zs at d within) n out new all e s w

    -- no more are taken than there are
    pub at_most : (n m : ℕ) → n ≡ m → m ≤ length (drop (at + 1) zs) → at + (n + 1) ≤ length zs
    at_most n m e h = omega (arith, length-drop (at + 1) zs)

-- a first element with that many after it
pub own_part : {Z : Type 0} (zs : List Z) (at n : ℕ) (d : Z) → at < length zs → take (at + 1 + n - at) (drop at zs) ≡ get_or zs at d ∷ take n (drop (at + 1) zs)
own_part zs at n d h =
    let some : at + 1 + n - at ≡ suc n = omega arith in
    ap (λ k. take k (drop at zs)) some ∙ ap (take (suc n)) (drop_more zs at d h)

pub within_all : {Z : Type 0} (zs : List Z) (at n m : ℕ) → at < length zs → n ≡ min m (length (drop (at + 1) zs)) → at + (n + 1) ≤ length zs
within_all zs at n m h e = omega (arith, length-drop (at + 1) zs)
