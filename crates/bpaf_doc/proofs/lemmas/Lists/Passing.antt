-- Lists that pass a test which keeps a state.
use Rattle.std.proofs.Common.{◌≡◌, Bool, true, List, [], ◌∷◌, ◌++◌, arith, not, ◌&&◌, ◌||◌}
use Rattle.std.proofs.lemmas.Bool.{and_parts, and_from}

pub implies : (a b : Bool) → (not a || b) ≡ true → a ≡ true → b ≡ true
implies a b h e = grind arith

module _ {Q X : Type 0} (ok : Q → X → Bool) (next : Q → X → Q) where
  -- the state after all of them
  abbrev pub state_after : Q → List X → Q
  state_after q [] = q
  state_after q (x ∷ xs) = state_after (next q x) xs

  -- each of them passes in its state
  abbrev pub passes : Q → List X → Bool
  passes q [] = true
  passes q (x ∷ xs) = ok q x && passes (next q x) xs

  pub passes_back : (q : Q) (xs ys : List X) → passes q (xs ++ ys) ≡ true → passes (state_after q xs) ys ≡ true
  passes_back q [] ys h = h
  passes_back q (x ∷ xs) ys h = passes_back (next q x) xs ys (and_parts (ok q x) (passes (next q x) (xs ++ ys)) h).1

  pub passes_both : (q : Q) (xs ys : List X) → passes q xs ≡ true → passes (state_after q xs) ys ≡ true → passes q (xs ++ ys) ≡ true
  passes_both q [] ys h k = k
  passes_both q (x ∷ xs) ys h k = grind (arith, passes_both (next q x) xs ys, and_parts, and_from)

  pub passes_first : (q : Q) (x : X) (xs : List X) → passes q (x ∷ xs) ≡ true → ok q x ≡ true
  passes_first q x xs h = (and_parts (ok q x) (passes (next q x) xs) h).0
