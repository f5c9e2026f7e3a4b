-- What a set in order says of its keys, by their equality.
use Rattle.std.proofs.Common.{◌≡◌, ℕ, Bool, true, not, cond, List, sym, subst}
use Rattle.std.specs.Prelude.{bytes_eq}
use Rattle.std.specs.List.{list_any}
use Rattle.std.specs.Cmp.Lexicographic.{slice_cmp, texts_ties}
use Rattle.std.specs.Ordering.{eq_by_cmp, nat_cmp}
use Rattle.std.specs.declared.cmp.Ordering.{Ordering}

module _ {K : Type 0} (cmp : K → K → Ordering) (same : K → K → Bool) (ties : (x y : K) → same x y ≡ eq_by_cmp cmp x y) where
  by_order : eq_by_cmp cmp ≡ same
  by_order i x y = sym (ties x y) i

  -- a key is new
  pub added_by : (keys : List K) (key : K) (added : Bool) → added ≡ not (list_any (eq_by_cmp cmp key) keys) → added ≡ not (list_any (same key) keys)
  added_by keys key added = subst (λ (eq : K → K → Bool). added ≡ not (list_any (eq key) keys)) by_order

  -- the keys with one more
  pub updated_by : (keys more : List K) (key : K) → ((q : K) → list_any (eq_by_cmp cmp q) more ≡ cond (eq_by_cmp cmp key q) true (list_any (eq_by_cmp cmp q) keys))
      → (q : K) → list_any (same q) more ≡ cond (same key q) true (list_any (same q) keys)
  updated_by keys more key = subst (λ (eq : K → K → Bool). (q : K) → list_any (eq q) more ≡ cond (eq key q) true (list_any (eq q) keys)) by_order

-- ---- keys that a text distinguishes

module _ {K : Type 0} (text : K → List ℕ) where
  abbrev pub text_cmp : K → K → Ordering
  text_cmp x y = slice_cmp nat_cmp (text x) (text y)

  abbrev pub same_text : K → K → Bool
  same_text x y = bytes_eq (text x) (text y)

  pub text_added : (keys : List K) (key : K) (added : Bool) → added ≡ not (list_any (eq_by_cmp text_cmp key) keys) → added ≡ not (list_any (same_text key) keys)
  text_added = added_by text_cmp same_text (λ x y. texts_ties (text x) (text y))

  pub text_updated : (keys more : List K) (key : K) → ((q : K) → list_any (eq_by_cmp text_cmp q) more ≡ cond (eq_by_cmp text_cmp key q) true (list_any (eq_by_cmp text_cmp q) keys))
      → (q : K) → list_any (same_text q) more ≡ cond (same_text key q) true (list_any (same_text q) keys)
  text_updated = updated_by text_cmp same_text (λ x y. texts_ties (text x) (text y))
