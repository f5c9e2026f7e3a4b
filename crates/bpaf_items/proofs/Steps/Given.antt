-- Going through a list and keeping the block that was started last gives the entries of a heading.
use Rattle.std.specs.Prelude.{if◌then◌else◌, ◌++◌, ◌+◌, ◌∷◌, ◌≡◌}
use Rattle.bpaf_items.proofs.Words.{Bool, List, [], map, refl, ap, arith, filter, cond, Option, Some, None, not, position, prefix_len, length-map, HiTy, Entry, Placed, same_type, type_of, is_mark, last_that, placed_after, is_given_after, is_given, items_of_type, state_after, is_given_within, is_given_in, given_from}
use Rattle.bpaf_items.specs.declared.meta_help.given.State.{State}
use Rattle.bpaf_items.specs.declared.meta_help.given.State.TheVariants.{Outside}
use Rattle.bpaf_items.proofs.Listing.Pushes.{last_that-push}

-- the block of a last mark
abbrev state_of : Option Entry → State
state_of None = Outside
state_of (Some e) = state_after Outside e

state_push : (m : Option Entry) (e : Entry) → state_after (state_of m) e ≡ state_of (if is_mark e then Some e else m)
state_push m e = grind arith

within_alike : (m : Option Entry) (k : HiTy) (e : Entry) → is_given_within (state_of m) k e ≡ is_given_after m k e
within_alike m k e = grind arith

given_alike : (m : Option Entry) (k : HiTy) (e : Entry) → is_given_in (state_of m) k e ≡ (if is_mark e then same_type (type_of e) k else is_given_after m k e)
given_alike m k e = ap (λ b. if is_mark e then same_type (type_of e) k else b) (within_alike m k e)

module _ {X : Type 0} (f : X → Entry) (k : HiTy) where
  given_step : (b : Bool) (before : List Entry) (x : X) (rest : List X) (ps : List Placed) → map f rest ≡ map (λ p. p.1) ps
      → map f (if b then x ∷ rest else rest) ≡ map (λ p. p.1) (if b then (before, f x) ∷ ps else ps)
  given_step b before x rest ps h5 = grind arith

  given_after : (before : List Entry) (xs : List X) → map f (given_from f (state_of (last_that is_mark before)) k xs) ≡ map (λ p. p.1) (filter (is_given k) (placed_after before (map f xs)))
  given_after before [] = refl
  given_after before (x ∷ xs) = grind (arith, given_after (before ++ f x ∷ []) xs, state_push, last_that-push, given_alike, given_step)

  pub given_of_type : (xs : List X) → map f (given_from f Outside k xs) ≡ items_of_type (map f xs) k
  given_of_type xs = given_after [] xs

-- the first place that passes, of a list seen through a function
prefix_len-map : {X Y : Type 0} (p : Y → Bool) (f : X → Y) (xs : List X) → prefix_len (λ x. p (f x)) xs ≡ prefix_len p (map f xs)
prefix_len-map p f [] = refl
prefix_len-map p f (x ∷ xs) = ap (λ n. cond (p (f x)) (1 + n) 0) (prefix_len-map p f xs)

pub position-map : {X Y : Type 0} (p : Y → Bool) (f : X → Y) (xs : List X) → position (λ x. p (f x)) xs ≡ position p (map f xs)
position-map p f xs =
    let first = prefix_len-map (λ y. not (p y)) f xs in
    let whole = length-map xs f in
    cc
