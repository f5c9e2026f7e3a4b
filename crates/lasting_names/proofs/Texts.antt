-- The texts of a list of keys: what each call on the set does to them.
use Rattle.std.proofs.Common.{◌≡◌, ◌∙◌, refl, sym, ap, subst, ℕ, Bool, true, false, ◌||◌, List, [], ◌∷◌, map, Contains, bytes_eq, ◌⊎◌, inl, inr}
use denote.Ref.{Bor}
use Rattle.std.specs.BTreeSet.{insert_key}
use Rattle.std.specs.Cmp.Lexicographic.{bytes_decides, nat_list_eq_equiv, slice_cmp, texts_ties}
use Rattle.std.specs.List.{list_any, IsDistinct, AllByRecursion}
use Rattle.std.specs.List.Sorted.{IsStrictlySortedBy}
use Rattle.std.specs.Ordering.{eq_by_cmp, is_eq, match_ordering, nat_cmp}
use Rattle.std.specs.declared.cmp.Ordering.{Ordering}
use Rattle.std.specs.declared.cmp.Ordering.TheVariants.{Less, Equal, Greater}
use Rattle.std.proofs.lemmas.Map.Keys.{IsDistinct-from_sorted}
use Rattle.std.proofs.lemmas.Map.Made.{AllPairs-from_IsDistinct}
use Rattle.std.proofs.lemmas.Map.Views.{Contains-from_any, list_any-from_Contains}
use Rattle.lasting_names.specs.Kept.{KeepsAlso, EachOnce}

-- the bytes of each key
abbrev pub texts : List (Bor (List ℕ)) → List (List ℕ)
texts ks = map (λ k. k.now) ks

-- the order of the set
abbrev pub cmp : Bor (List ℕ) → Bor (List ℕ) → Ordering
cmp x y = slice_cmp nat_cmp x.now y.now

one_of : (t : List ℕ) (ks : List (List ℕ)) → list_any (bytes_eq t) ks ≡ true → Contains ks t
one_of = Contains-from_any {eq = bytes_eq} (λ x y. (bytes_decides x y).0)

is_one : (t : List ℕ) (ks : List (List ℕ)) → Contains ks t → list_any (bytes_eq t) ks ≡ true
is_one = list_any-from_Contains nat_list_eq_equiv

any_text : (t : List ℕ) (ks : List (Bor (List ℕ))) → list_any (λ k. is_eq (slice_cmp nat_cmp t k.now)) ks ≡ list_any (bytes_eq t) (texts ks)
any_text t [] = refl
any_text t (k ∷ ks) = λ i. sym (texts_ties t k.now) i || any_text t ks i

-- a text that a look-up finds is kept
pub found : (t : List ℕ) (ks : List (Bor (List ℕ))) → list_any (λ k. is_eq (slice_cmp nat_cmp t k.now)) ks ≡ true → Contains (texts ks) t
found t ks h = one_of t (texts ks) (sym (any_text t ks) ∙ h)

-- it is the text of the key that is found
pub same_text : (t u : List ℕ) → slice_cmp nat_cmp t u ≡ Equal → u ≡ t
same_text t u h = sym ((bytes_decides t u).0 (texts_ties t u ∙ ap is_eq h))

-- a text that is kept already adds none
pub kept_already : (text : List ℕ) (before : List (List ℕ)) → Contains before text → KeepsAlso text before before
kept_already text before h t = (inl, by)
  where
    by : Contains before t ⊎ (t ≡ text) → Contains before t
    by (inl k) = k
    by (inr e) = subst (Contains before) (sym e) h

or_again : (a b : Bool) → (a || b) ≡ (a || (a || b))
or_again true b = refl
or_again false b = refl

after : (a b c : Bool) → (b || (a || c)) ≡ (a || (b || c))
after true true c = refl
after true false c = refl
after false b c = refl

any_put : (t : List ℕ) (k : Bor (List ℕ)) (ks : List (Bor (List ℕ))) → list_any (bytes_eq t) (texts (insert_key cmp ks k)) ≡ (bytes_eq t k.now || list_any (bytes_eq t) (texts ks))
any_put t k [] = refl
any_put t k (x ∷ ks) = by (cmp k x) refl (any_put t k ks) where
  by : (o : Ordering) → cmp k x ≡ o → list_any (bytes_eq t) (texts (insert_key cmp ks k)) ≡ (bytes_eq t k.now || list_any (bytes_eq t) (texts ks))
      → list_any (bytes_eq t) (texts (match_ordering o (k ∷ x ∷ ks) (x ∷ ks) (x ∷ insert_key cmp ks k))) ≡ (bytes_eq t k.now || (bytes_eq t x.now || list_any (bytes_eq t) (texts ks)))
  by Less e rest = refl
  by Equal e rest =
      let same : k.now ≡ x.now = (bytes_decides k.now x.now).0 (texts_ties k.now x.now ∙ ap is_eq e) in
      or_again (bytes_eq t x.now) (list_any (bytes_eq t) (texts ks)) ∙ ap (λ u. bytes_eq t u || (bytes_eq t x.now || list_any (bytes_eq t) (texts ks))) (sym same)
  by Greater e rest = ap (λ b. bytes_eq t x.now || b) rest ∙ after (bytes_eq t k.now) (bytes_eq t x.now) (list_any (bytes_eq t) (texts ks))

-- after `insert` of k the text of k is kept besides
pub put : (k : Bor (List ℕ)) (ks ls : List (Bor (List ℕ))) → ls ≡ insert_key cmp ks k → KeepsAlso k.now (texts ks) (texts ls)
put k ks ls is t = (λ h. there (bytes_eq t k.now) refl (sym one ∙ is_one t (texts ls) h), back)
  where
    one : list_any (bytes_eq t) (texts ls) ≡ (bytes_eq t k.now || list_any (bytes_eq t) (texts ks))
    one = ap (λ l. list_any (bytes_eq t) (texts l)) is ∙ any_put t k ks

    there : (b : Bool) → bytes_eq t k.now ≡ b → (b || list_any (bytes_eq t) (texts ks)) ≡ true → Contains (texts ks) t ⊎ (t ≡ k.now)
    there true e h = inr ((bytes_decides t k.now).0 e)
    there false e h = inl (one_of t (texts ks) h)

    or_true : (b : Bool) → (b || true) ≡ true
    or_true true = refl
    or_true false = refl

    back : Contains (texts ks) t ⊎ (t ≡ k.now) → Contains (texts ls) t
    back (inl h) = one_of t (texts ls) (one ∙ ap (λ b. bytes_eq t k.now || b) (is_one t (texts ks) h) ∙ or_true (bytes_eq t k.now))
    back (inr e) = one_of t (texts ls) (one ∙ ap (λ b. b || list_any (bytes_eq t) (texts ks)) ((bytes_decides t k.now).1 e))

apart : (t : List ℕ) (ks : List (Bor (List ℕ))) → AllByRecursion (λ k. is_eq (slice_cmp nat_cmp t k.now) ≡ false) ks → AllByRecursion (λ b. bytes_eq t b ≡ false) (texts ks)
apart t [] h = tt
apart t (k ∷ ks) h = (texts_ties t k.now ∙ h.0, apart t ks h.1)

distinct : (ks : List (Bor (List ℕ))) → IsDistinct (eq_by_cmp cmp) ks → IsDistinct bytes_eq (texts ks)
unfolding IsDistinct
distinct [] h = tt
distinct (k ∷ ks) h = (apart k.now ks h.0, distinct ks h.1)

-- ascending keys are distinct texts
pub each_once : (ks : List (Bor (List ℕ))) → IsStrictlySortedBy cmp ks → EachOnce (texts ks)
each_once ks d = AllPairs-from_IsDistinct bytes_decides (texts ks) (distinct ks (IsDistinct-from_sorted cmp ks d))
