-- Names that are sorted, each once.
use Rattle.std.proofs.Common.{◌≡◌, ℕ, ◌+◌, Bool, true, false, cond, List, [], ◌∷◌, ap, get_or, map, refl, subst, sym, ◌∙◌}
use Rattle.std.specs.Prelude.{◌↔◌}
use Rattle.std.specs.Borrow.{Bor}
use Rattle.std.specs.List.{AllByRecursion, Contains, dedup, dedup_from}
use Rattle.std.specs.List.Retain.{DiffersFromLast, IsFiltered}
use Rattle.std.specs.List.Sorted.{IsPermutation, IsSorted, IsStrictlySortedBy}
use Rattle.std.specs.Ordering.{eq_by_cmp, is_lt}
use Rattle.std.specs.declared.cmp.Ordering.{Ordering}
use Rattle.std.specs.declared.cmp.Ordering.TheVariants.{Less}
use Rattle.std.proofs.lemmas.Cmp.{eq_by_cmp_equiv, on_total}
use Rattle.std.proofs.lemmas.List.Filters.{dedup_is}
use Rattle.std.proofs.lemmas.List.Kept.{Contains-dedup, Contains-from_dedup, IsStrictlySortedBy-dedup}
use Rattle.std.proofs.lemmas.List.Sorted.{Contains-permutation, IsPermutation-map, IsPermutation-sym}
use Rattle.std.proofs.lemmas.Map.Text.{is_eq-slice_cmp}
use Rattle.std.proofs.lemmas.Map.Views.{tells_apart}
use Rattle.help_differences.specs.contracts.names.NameOrd.TheImpl as order
use Rattle.help_differences.specs.contracts.names.NamePartialEq.TheImpl as equal
use Rattle.help_differences.specs.declared.names.Kind.{Kind}
use Rattle.help_differences.specs.declared.names.Kind.TheVariants as kind
use Rattle.help_differences.specs.declared.names.Name.{Name}
use Rattle.help_differences.specs.Names.{Named}
use Rattle.help_differences.specs.Differences.{name_cmp}
use Rattle.help_differences.specs.View.{name_said}
use Rattle.help_differences.proofs.Merged.{names_alike, names_total}

-- ---- the comparisons of names

abbrev made : Kind → Bor (List ℕ) → Name
made k t = record { kind = k; text = t }

cmp_by : (k j : Kind) (t u : Bor (List ℕ)) → order.ghosts.cmp (made k t) (made j u) ≡ name_cmp (name_said (made k t)) (name_said (made j u))
cmp_by kind.Option kind.Option t u = refl
cmp_by kind.Option kind.Command t u = refl
cmp_by kind.Command kind.Option t u = refl
cmp_by kind.Command kind.Command t u = refl

cmp_is : (x y : Name) → order.ghosts.cmp x y ≡ name_cmp (name_said x) (name_said y)
cmp_is x y = cmp_by x.kind y.kind x.text y.text

eq_by : (k j : Kind) (t u : Bor (List ℕ)) → equal.ghosts.eq (made k t) (made j u) ≡ eq_by_cmp name_cmp (name_said (made k t)) (name_said (made j u))
eq_by kind.Option kind.Option t u = sym (is_eq-slice_cmp t.now u.now)
eq_by kind.Option kind.Command t u = refl
eq_by kind.Command kind.Option t u = refl
eq_by kind.Command kind.Command t u = sym (is_eq-slice_cmp t.now u.now)

eq_is : (x y : Name) → equal.ghosts.eq x y ≡ eq_by_cmp name_cmp (name_said x) (name_said y)
eq_is x y = eq_by x.kind y.kind x.text y.text

-- ---- in order

abbrev by_said : Name → Name → Ordering
by_said x y = name_cmp (name_said x) (name_said y)

sorted_said : (xs : List Name) → IsSorted order.ghosts.cmp xs → IsSorted by_said xs
sorted_said xs h k d lo hi = ap is_lt (sym (cmp_is (get_or xs (k + 1) d) (get_or xs k d))) ∙ h k d lo hi

before_said : (x : Name) (xs : List Name) → AllByRecursion (λ y. by_said x y ≡ Less) xs → AllByRecursion (λ y. name_cmp (name_said x) y ≡ Less) (map name_said xs)
before_said x [] h = tt
before_said x (y ∷ ys) h = (h.0, before_said x ys h.1)

in_order_said : (xs : List Name) → IsStrictlySortedBy by_said xs → IsStrictlySortedBy name_cmp (map name_said xs)
unfolding IsStrictlySortedBy
in_order_said [] h = tt
in_order_said (x ∷ xs) h = (before_said x xs h.0, in_order_said xs h.1)

pub deduped_in_order : (xs ys : List Name) → IsSorted order.ghosts.cmp xs → IsFiltered (DiffersFromLast equal.ghosts.eq) [] xs ys → IsStrictlySortedBy name_cmp (map name_said ys)
deduped_in_order xs ys h f =
    let once : IsStrictlySortedBy by_said (dedup equal.ghosts.eq xs) = IsStrictlySortedBy-dedup (on_total name_said names_total) eq_is xs (sorted_said xs h) in
    subst (λ zs. IsStrictlySortedBy name_cmp (map name_said zs)) (sym (dedup_is equal.ghosts.eq xs ys f)) (in_order_said (dedup equal.ghosts.eq xs) once)

-- ---- the same names

abbrev same_name : Named → Named → Bool
same_name = eq_by_cmp name_cmp

cond_map : (b c : Bool) (us vs : List Name) (ws zs : List Named) → b ≡ c → map name_said us ≡ ws → map name_said vs ≡ zs → map name_said (cond b us vs) ≡ cond c ws zs
cond_map true true us vs ws zs e p q = p
cond_map false false us vs ws zs e p q = q
cond_map true false us vs ws zs e p q = cc
cond_map false true us vs ws zs e p q = cc

dedup_from_said : (x : Name) (xs : List Name) → map name_said (dedup_from equal.ghosts.eq x xs) ≡ dedup_from same_name (name_said x) (map name_said xs)
dedup_from_said x [] = refl
dedup_from_said x (y ∷ ys) =
    cond_map (equal.ghosts.eq y x) (same_name (name_said y) (name_said x)) _ _ _ _ (eq_is y x) (dedup_from_said x ys) (ap (λ (ns : List Named). name_said x ∷ ns) (dedup_from_said y ys))

dedup_said : (xs : List Name) → map name_said (dedup equal.ghosts.eq xs) ≡ dedup same_name (map name_said xs)
dedup_said [] = refl
dedup_said (x ∷ xs) = dedup_from_said x xs

pub deduped_same : (names xs ys : List Name) → IsPermutation names xs → IsFiltered (DiffersFromLast equal.ghosts.eq) [] xs ys → (n : Named) → Contains (map name_said ys) n ↔ Contains (map name_said names) n
deduped_same names xs ys p f n =
    let is : map name_said ys ≡ dedup same_name (map name_said xs) = ap (λ zs. map name_said zs) (dedup_is equal.ghosts.eq xs ys f) ∙ dedup_said xs in
    let moved : IsPermutation (map name_said names) (map name_said xs) = IsPermutation-map name_said names xs p in (
      λ h. Contains-permutation (map name_said xs) (map name_said names) n (IsPermutation-sym (map name_said names) (map name_said xs) moved)
          (Contains-from_dedup same_name (map name_said xs) n (subst (λ ns. Contains ns n) is h)),
      λ h. subst (λ ns. Contains ns n) (sym is)
          (Contains-dedup (eq_by_cmp_equiv names_total) (tells_apart names_alike) (map name_said xs) n (Contains-permutation (map name_said names) (map name_said xs) n moved h)),
    )
