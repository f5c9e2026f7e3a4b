-- The first of the items with one key.
use Rattle.std.proofs.Common.{◌≡◌, Bool, true, false, not, cond, ◌||◌, List, [], ◌∷◌, ◌++◌, map, refl, sym, ap, ◌∙◌, subst, arith, append_assoc, IfOk, Result, Ok, Err}
use Rattle.std.specs.List.{list_any}
use Rattle.std.specs.Ordering.{eq_by_cmp}
use Rattle.std.specs.declared.cmp.Ordering.{Ordering}
use Rattle.std.specs.Cmp.{IsEquivalence}
use Rattle.std.proofs.lemmas.List.{map-append}
use Rattle.std.proofs.lemmas.List.Folds.{list_any-append}
use Rattle.description_pages.specs.Once.{each_once, HasSeen, if_new, new_after}
use Rattle.description_usage.proofs.LevelParts.{any_seen}

-- ---- a key that is seen

one_more : (b c rest : Bool) → c ≡ rest → cond b true c ≡ (rest || (b || false))
one_more b c rest h = grind arith

module _ {K : Type 0} (same : K → K → Bool) (laws : IsEquivalence same) where
  pub key_seen : (keys more before : List K) (key : K) (added : Bool) → HasSeen same keys before → added ≡ not (list_any (same key) keys) → ((q : K) → list_any (same q) more ≡ cond (same key q) true (list_any (same q) keys))
      → (added ≡ not (list_any (same key) before)) × HasSeen same more (before ++ key ∷ [])
  key_seen keys more before key added seen fresh put = (
    fresh ∙ ap not (seen key),
    λ q.
        put q ∙ ap (λ b. cond b true (list_any (same q) keys)) (laws.symm key q) ∙ one_more (same q key) (list_any (same q) keys) (list_any (same q) before) (seen q) ∙ sym (list_any-append (same q) before (key ∷ [])),
  )

  module _ (cmp : K → K → Ordering) (ties : (x y : K) → same x y ≡ eq_by_cmp cmp x y) where
    by_order : eq_by_cmp cmp ≡ same
    by_order i x y = sym (ties x y) i

    pub ordered_key_seen : (keys more before : List K) (key : K) (added : Bool) → HasSeen same keys before → added ≡ not (list_any (eq_by_cmp cmp key) keys)
        → ((q : K) → list_any (eq_by_cmp cmp q) more ≡ cond (eq_by_cmp cmp key q) true (list_any (eq_by_cmp cmp q) keys)) → (added ≡ not (list_any (same key) before)) × HasSeen same more (before ++ key ∷ [])
    ordered_key_seen keys more before key added seen fresh put =
        key_seen keys more before key added seen (subst (λ (eq : K → K → Bool). added ≡ not (list_any (eq key) keys)) by_order fresh)
        (subst (λ (eq : K → K → Bool). (q : K) → list_any (eq q) more ≡ cond (eq key q) true (list_any (eq q) keys)) by_order put)

-- ---- one item more

module _ {X K T : Type 0} (key : X → K) (item : X → T) (same : K → K → Bool) where
  abbrev pub same_keys : X → X → Bool
  same_keys x y = same (key x) (key y)

  abbrev pub SeenSoFar : (items : List T) → (before rest all : List X) → Type 0
  SeenSoFar items before rest all = items ++ map item (new_after same_keys before rest) ≡ map item (each_once same_keys all)

  module _ (items more : List T) (before rest after all : List X) (x : X) (added : Bool) (next : rest ≡ x ∷ after) (is : added ≡ not (list_any (same (key x)) (map key before))) (so_far : SeenSoFar items before rest all) where
    if_fresh : if_new same_keys before x ≡ cond added (x ∷ []) []
    if_fresh = by (list_any (same_keys x) before) (is ∙ ap not (any_seen (same (key x)) key before)) where
      by : (b : Bool) → added ≡ not b → cond b [] (x ∷ []) ≡ cond added (x ∷ []) []
      by true e = ap (λ a. cond a (x ∷ []) []) (sym e)
      by false e = ap (λ a. cond a (x ∷ []) []) (sym e)

    item_there : (b : Bool) → map item (cond b (x ∷ []) []) ≡ cond b (item x ∷ []) []
    item_there true = refl
    item_there false = refl

    pub item_seen : more ≡ items ++ cond added (item x ∷ []) [] → SeenSoFar more (before ++ x ∷ []) after all
    item_seen put =
        let follows = new_after same_keys (before ++ x ∷ []) after in
        let first : map item (if_new same_keys before x) ≡ cond added (item x ∷ []) [] = ap (map item) if_fresh ∙ item_there added in
        ap (λ ts. ts ++ map item follows) put ∙ append_assoc items (cond added (item x ∷ []) []) (map item follows)
        ∙ ap (λ ts. items ++ ts) (sym (map-append item (if_new same_keys before x) follows ∙ ap (λ ts. ts ++ map item follows) first)) ∙ sym (ap (λ r. items ++ map item (new_after same_keys before r)) next)
        ∙ so_far

-- ---- items as they are seen

module _ {X S : Type 0} (see : X → S) (same : X → X → Bool) (alike : S → S → Bool) (agree : (x y : X) → same x y ≡ alike (see x) (see y)) where
  any_alike : (x : X) (before : List X) → list_any (same x) before ≡ list_any (alike (see x)) (map see before)
  any_alike x [] = refl
  any_alike x (y ∷ before) = ap (λ b. b || list_any (same x) before) (agree x y) ∙ ap (λ b. alike (see x) (see y) || b) (any_alike x before)

  new_seen : (x : X) (before : List X) → map see (if_new same before x) ≡ if_new alike (map see before) (see x)
  new_seen x before = by (list_any (same x) before) ∙ ap (λ b. cond b [] (see x ∷ [])) (any_alike x before) where
    by : (b : Bool) → map see (cond b [] (x ∷ [])) ≡ cond b [] (see x ∷ [])
    by true = refl
    by false = refl

  after_seen : (before xs : List X) → map see (new_after same before xs) ≡ new_after alike (map see before) (map see xs)
  after_seen before [] = refl
  after_seen before (x ∷ xs) =
      map-append see (if_new same before x) (new_after same (before ++ x ∷ []) xs) ∙ ap (λ ys. ys ++ map see (new_after same (before ++ x ∷ []) xs)) (new_seen x before)
      ∙ ap (λ ys. if_new alike (map see before) (see x) ++ ys) (after_seen (before ++ x ∷ []) xs ∙ ap (λ ys. new_after alike ys (map see xs)) (map-append see before (x ∷ [])))

  pub once_seen : (xs : List X) → map see (each_once same xs) ≡ each_once alike (map see xs)
  once_seen xs = after_seen [] xs

pub if_ok_more : {T E : Type 0} (r : Result T E) (P Q : T → Type 0) → ((x : T) → P x → Q x) → IfOk r P → IfOk r Q
if_ok_more (Ok x) P Q f h = f x h
if_ok_more (Err e) P Q f h = tt

pub map_twice : {X Y Z : Type 0} (f : Y → Z) (h : X → Y) (xs : List X) → map f (map h xs) ≡ map (λ x. f (h x)) xs
map_twice f h [] = refl
map_twice f h (x ∷ xs) = ap (λ ys. f (h x) ∷ ys) (map_twice f h xs)
