-- What is remembered of the entries so far, after one more.
use Rattle.std.specs.Prelude.{◌&&◌, ◌++◌, ◌==◌, ◌||◌, ◌∷◌, ◌≡◌, ◌≤◌}
use Rattle.bpaf_items.proofs.Words.{ℕ, Bool, true, false, not, List, [], Some, None, refl, sym, ap, ◌∙◌, append-nil, subst, arith, length, suc, flat_map, fold, nat_eq, Result, Ok, Err, IfOk, AllByRecursion, IsDistinct, dedup, dedup_from, list_any, is_eq, match_ordering, nat_cmp, ordering_then, is_at, or-false, or-true, eq-eqb, or_parts, flat_map-append, common_steps, list_any-append, Part, with_writes, Leaf, with_writes-append, Entry, listed, Key, key_cmp, key_of, entry_key, same_key, is_mark, has_key_of, is_mark_or_new, is_shown, Texts, list_writes, AreApart, AreHashed, Hashed, IsHashed, PutsKey, Remembers, entry_hash, has_key, ends_in_mark_or_new, key_hash, shown_writes, key_in}
use Rattle.std.specs.List.Sorted.{IsPermutation, IsSorted, IsStrictlySortedBy}
use Rattle.std.specs.Hash.FoldHasher as folding
use Rattle.std.specs.declared.cmp.Ordering.{Ordering}
use Rattle.std.specs.declared.cmp.Ordering.TheVariants.{Less, Equal, Greater}
use Rattle.std.specs.Cmp.{both_tied, nat_cmp_total, nat_eq_equiv, unsigned_ties}
use Rattle.std.specs.BTreeSet.{insert_key}
use Rattle.std.proofs.lemmas.List.Kept.{IsStrictlySortedBy-dedup}
use Rattle.std.proofs.lemmas.List.Sorted.{IsPermutation-sym}
use Rattle.std.proofs.lemmas.Map.Keys.{IsDistinct-IsPermutation, IsDistinct-from_sorted, IsDistinct-head, IsDistinct-tail}
use Rattle.bpaf_items.specs.Steps.KeyOrder.{keys_equiv, keys_tied, key_fed}
use Rattle.bpaf_items.proofs.Listing.Placing.{placed-push}
use Rattle.bpaf_items.proofs.Listing.Pushes.{last_or-push}
use Rattle.bpaf_items.proofs.Listing.Shown.{shown-push}

last_shown-push : (before : List Entry) (e : Entry) → ends_in_mark_or_new (before ++ e ∷ []) ≡ is_mark_or_new (before, e)
last_shown-push before e = grind (arith, placed-push, last_or-push)

-- ---- keys

or_swap : (a b : Bool) → (a || b) ≡ (b || (a || false))
or_swap a b = grind arith

or_none : (b : Bool) → b ≡ (b || (false || false))
or_none b = grind arith

or_again : (a b : Bool) → (a || b) ≡ (a || (a || b))
or_again a b = grind arith

after : (a b c : Bool) → (b || (a || c)) ≡ (a || (b || c))
after a b c = grind arith

number_same : (m n : ℕ) (b : Bool) → (b ≡ true → m ≡ n) → ((m == n) && b) ≡ b
number_same m n b h3 = grind (arith, eq-eqb)

module _ {B : Type 0} where
  -- the order of the set: by hash, then by key
  abbrev pub cmp : Hashed B → Hashed B → Ordering
  cmp x y = ordering_then (nat_cmp x.0 y.0) (key_cmp (key_in x.1) (key_in y.1))

  -- it finds two of them equal exactly where their keys are, since equal keys have one hash
  is_same : (x y : Hashed B) → IsHashed x → IsHashed y → is_eq (cmp x y) ≡ same_key (key_in x.1) (key_in y.1)
  is_same x y h i =
      sym (both_tied (x.0 == y.0) (same_key (key_in x.1) (key_in y.1)) _ _ (unsigned_ties x.0 y.0) (keys_tied (key_in x.1) (key_in y.1)))
      ∙ number_same x.0 y.0 _ (λ e. h ∙ ap (λ fed. folding.finish (fold folding.write folding.initial fed)) (key_fed (key_in x.1) (key_in y.1) e) ∙ sym i)

  module _ (x : Hashed B) (own : IsHashed x) where
    found : (keys : List (Hashed B)) → AreHashed keys → list_any (is_at (cmp x)) keys ≡ has_key keys (key_in x.1)
    found [] all = refl
    found (y ∷ keys) all = λ j. is_same x y own all.0 j || found keys all.1 j

    put_hashed : (keys : List (Hashed B)) → AreHashed keys → AreHashed (insert_key cmp keys x)
    put_hashed [] all = (own, tt)
    put_hashed (y ∷ keys) all = grind (arith, put_hashed keys all.1)

    put_has : (keys : List (Hashed B)) → AreHashed keys → (q : Key) → has_key (insert_key cmp keys x) q ≡ (same_key q (key_in x.1) || has_key keys q)
    put_has [] all q = refl
    put_has (y ∷ keys) all q = by (cmp x y) refl (put_has keys all.1 q) where
      test : Hashed B → Bool
      test z = same_key q (key_in z.1)

      by : (o : Ordering) → cmp x y ≡ o → has_key (insert_key cmp keys x) q ≡ (same_key q (key_in x.1) || has_key keys q)
          → has_key (match_ordering o (x ∷ y ∷ keys) (y ∷ keys) (y ∷ insert_key cmp keys x)) q ≡ (test x || (test y || has_key keys q))
      by Less e rest = refl
      by Equal e rest =
          let same = keys_equiv.congr (key_in x.1) (key_in y.1) q (sym (is_same x y own all.0) ∙ ap is_eq e) in
          let tests : test x ≡ test y = keys_equiv.symm q (key_in x.1) ∙ same ∙ keys_equiv.symm (key_in y.1) q in
          or_again (test y) (has_key keys q) ∙ ap (λ b. b || (test y || has_key keys q)) (sym tests)
      by Greater e rest = ap (λ b. test y || b) rest ∙ after (test x) (test y) (has_key keys q)

pub puts_key : {B : Type 0} (keys after : List (Hashed B)) (x : Hashed B) (is_new : Bool) → IsHashed x → is_new ≡ not (list_any (is_at (cmp x)) keys) → after ≡ insert_key cmp keys x
    → AreHashed keys → PutsKey keys after (key_in x.1) is_new
puts_key keys after x is_new own answer put all = grind (arith, found, put_has, put_hashed)

-- ---- an entry with a key, and one without

-- a number that is among distinct ones differs from those before it
at_middle : (P : ℕ → Type 0) (xs ys : List ℕ) (h : ℕ) → AllByRecursion P (xs ++ h ∷ ys) → P h
at_middle P [] ys h all = all.0
at_middle P (x ∷ xs) ys h all = at_middle P xs ys h all.1

new_number : (xs ys : List ℕ) (h : ℕ) → IsDistinct nat_eq (xs ++ h ∷ ys) → list_any (nat_eq h) xs ≡ false
new_number [] ys h d = refl
new_number (x ∷ xs) ys h d =
    rw (nat_eq_equiv.symm h x ∙ at_middle (λ y. nat_eq x y ≡ false) xs ys h (IsDistinct-head nat_eq x (xs ++ h ∷ ys) d))
    (new_number xs ys h (IsDistinct-tail nat_eq x (xs ++ h ∷ ys) d))

-- keys with two hashes differ
two_keys : (k l : Key) → nat_eq (key_hash k) (key_hash l) ≡ false → same_key k l ≡ false
two_keys k l h = by (same_key k l) refl where
  by : (b : Bool) → same_key k l ≡ b → b ≡ false
  by true e = let one : key_hash k ≡ key_hash l = ap (λ fed. folding.finish (fold folding.write folding.initial fed)) (key_fed k l e) in cc (eq-eqb (key_hash k) (key_hash l) one, h)
  by false e = refl

keys_apart : (l : Leaf) (es : List Entry) → list_any (nat_eq (key_hash (key_of l))) (flat_map entry_hash es) ≡ false → list_any (has_key_of l) es ≡ false
keys_apart l [] h = refl
keys_apart l (listed m ∷ es) h =
    let (other, rest) = or_parts (nat_eq (key_hash (key_of l)) (key_hash (key_of m))) (list_any (nat_eq (key_hash (key_of l))) (flat_map entry_hash es)) h in
    rw (two_keys (key_of l) (key_of m) other) (keys_apart l es rest)
keys_apart l (x ∷ es) h = keys_apart l es h

new_among : (all before rest : List Entry) (l : Leaf) → all ≡ before ++ listed l ∷ rest → AreApart all → list_any (has_key_of l) before ≡ false
new_among all before rest l is apart = grind (arith, common_steps, keys_apart, new_number, flat_map-append)

abbrev Goes : {B : Type 0} → List Entry → Bool → List (Hashed B) → (shown last : Bool) → (before : List Entry) → Entry → Type 0
Goes all apart keys shown last before e = (shown ≡ is_shown (before, e)) × Remembers all apart keys last (before ++ e ∷ [])

item_apart : {B : Type 0} (all rest : List Entry) (keys after : List (Hashed B)) (shown last now : Bool) (k : Key) (e : Entry) (before : List Entry) → Some k ≡ entry_key e → all ≡ before ++ e ∷ rest
    → shown ≡ true → now ≡ true → after ≡ keys → Remembers all true keys last before → Goes all true after shown now before e
item_apart all rest keys after shown last now k (listed l) before is split told set same h = grind (arith, new_among all before rest l split (h.apart refl), last_shown-push before (listed l))
item_apart all rest keys after shown last now k x before is split told set same h = cc

item_shown : {B : Type 0} (all : List Entry) (keys after : List (Hashed B)) (shown last now : Bool) (k : Key) (e : Entry) (before : List Entry)
    → Some k ≡ entry_key e → PutsKey keys after k shown → now ≡ shown → Remembers all false keys last before → Goes all false after shown now before e
item_shown all keys after shown last now k e before h9 h10 h11 h12 =
    grind (arith, or_swap, list_any-append, last_shown-push)

pub item_goes : {B E : Type 0} (r : Result Bool E) (all rest : List Entry) (apart : Bool) (keys after : List (Hashed B)) (last now : Bool) (k : Key) (e : Entry) (before : List Entry)
    → Some k ≡ entry_key e → all ≡ before ++ e ∷ rest
    → (apart ≡ true → IfOk r (λ shown. (shown ≡ true) × (now ≡ true) × (after ≡ keys)))
    → (apart ≡ false → AreHashed keys → IfOk r (λ shown. PutsKey keys after k shown × (now ≡ shown)))
    → Remembers all apart keys last before → IfOk r (λ shown. Goes all apart after shown now before e)
item_goes (Ok shown) all rest true keys after last now k e before is split free puts h = let f = free refl in item_apart all rest keys after shown last now k e before is split f.0 f.1 f.2 h
item_goes (Ok shown) all rest false keys after last now k e before is split free puts h = let f = puts refl h.hashed in item_shown all keys after shown last now k e before is f.0 f.1 h
item_goes (Err x) all rest apart keys after last now k e before is split free puts h = tt

module _ {B : Type 0} (all : List Entry) (apart : Bool) where
  mark_shown : (keys : List (Hashed B)) (last : Bool) (e : Entry) (before : List Entry) → is_mark_or_new (before, e) ≡ true → is_shown (before, e) ≡ true → ((m : Leaf) → has_key_of m e ≡ false)
      → Remembers all apart keys last before → Goes all apart keys (last || true) true before e
  mark_shown keys last e before new is none h = grind (arith, or-true, or_none, list_any-append, last_shown-push)

  pub other_shown : (keys after : List (Hashed B)) (shown last now mark : Bool) (e : Entry) (before : List Entry)
      → None ≡ entry_key e → mark ≡ is_mark e → shown ≡ (last || mark) → now ≡ mark → after ≡ keys → Remembers all apart keys last before → Goes all apart after shown now before e
  other_shown keys after shown last now mark e before h8 h9 h10 h11 h12 h13 =
      grind (arith, or-false, or_none, list_any-append, last_shown-push, mark_shown)

  -- at the start of a list
  pub nothing_seen : (apart ≡ true → AreApart all) → (keys : List (Hashed B)) → keys ≡ [] → Remembers all apart keys false []
  nothing_seen is_apart keys is = record { apart = is_apart; hashed = subst AreHashed (sym is) tt; seen = λ no l. ap (λ ks. has_key ks (key_of l)) is; last = refl }

-- ---- numbers that differ

dedup_within : (k : ℕ) (xs : List ℕ) → length (dedup_from nat_eq k xs) ≤ suc (length xs)
dedup_within k [] = omega arith
dedup_within k (x ∷ xs) = grind (arith, dedup_within k xs, dedup_within x xs)

dedup_whole : (k : ℕ) (xs : List ℕ) → length (dedup_from nat_eq k xs) ≡ suc (length xs) → dedup_from nat_eq k xs ≡ k ∷ xs
dedup_whole k [] h = refl
dedup_whole k (x ∷ xs) h = grind (arith, dedup_whole x xs, dedup_within)

all_kept : (xs : List ℕ) → length (dedup nat_eq xs) ≡ length xs → dedup nat_eq xs ≡ xs
all_kept xs h1 = grind (arith, dedup_whole)

-- numbers are distinct if removing duplicates removes none once they are sorted
pub distinct_sorted : (xs sorted : List ℕ) → IsPermutation xs sorted → IsSorted nat_cmp sorted → length (dedup nat_eq sorted) ≡ length sorted → IsDistinct nat_eq xs
distinct_sorted xs sorted moved rises whole =
    let ascend : IsStrictlySortedBy nat_cmp sorted = subst (IsStrictlySortedBy nat_cmp) (all_kept sorted whole) (IsStrictlySortedBy-dedup nat_cmp_total unsigned_ties sorted rises) in
    let apart : IsDistinct nat_eq sorted = subst (λ (eq : ℕ → ℕ → Bool). IsDistinct eq sorted) (λ i x y. sym (unsigned_ties x y) i) (IsDistinct-from_sorted nat_cmp sorted ascend) in
    IsDistinct-IsPermutation nat_eq nat_eq_equiv.symm sorted xs (IsPermutation-sym xs sorted moved) apart

-- ---- lists

-- a list with one more entry
pub list-push : (included : Bool) (texts : Texts) (before : List Entry) (e : Entry) → list_writes included texts (before ++ e ∷ []) ≡ list_writes included texts before ++ shown_writes included texts before e
list-push included texts before e = grind (arith, shown-push, flat_map-append, append-nil)

pub list_next : (included : Bool) (texts : Texts) (before next : List Entry) (e : Entry) (first mid now : List Part) → next ≡ before ++ e ∷ []
    → mid ≡ with_writes first (list_writes included texts before) → now ≡ with_writes mid (shown_writes included texts before e) → now ≡ with_writes first (list_writes included texts next)
list_next included texts before next e first mid now more is written = grind (arith, with_writes-append, list-push)
