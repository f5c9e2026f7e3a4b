-- Two lists of names in order, step by step.
use Rattle.std.proofs.Common.{◌≡◌, ℕ, ◌+◌, ◌<◌, Bool, true, false, length, List, [], ◌∷◌, ◌++◌, ◌⊎◌, Option, Some, None, ap, append_assoc, arith, inl, inr, map, refl, subst, sym, ◌∙◌}
use Rattle.std.specs.Prelude.{◌↔◌, IfOk, Result, Ok, Err}
use Rattle.std.specs.Cmp.{IsTotalOrder}
use Rattle.std.specs.List.{AllByRecursion, Contains}
use Rattle.std.specs.List.Sorted.{IsStrictlySortedBy}
use Rattle.std.specs.Ordering.{is_ge, is_le, ordering_reverse}
use Rattle.std.specs.declared.cmp.Ordering.{Ordering}
use Rattle.std.specs.declared.cmp.Ordering.TheVariants.{Less, Equal, Greater}
use Rattle.std.proofs.lemmas.Cmp.{nat_cmp_total, nat_list_cmp_total, on_total, then_total, tied_itself}
use Rattle.std.proofs.lemmas.List.Elements.{Contains-append_cases, Contains-append_left, Contains-append_right, Contains-push, Contains-push_cases}
use Rattle.std.proofs.lemmas.List.{append-nil, map-append}
use Rattle.std.proofs.lemmas.Map.Lookups.{exact_bytes}
use Rattle.help_differences.specs.declared.names.Kind.{Kind}
use Rattle.help_differences.specs.declared.names.Kind.TheVariants as kind
use Rattle.help_differences.specs.declared.compared.Side.{Side}
use Rattle.help_differences.specs.declared.compared.Side.TheVariants as side
use Rattle.help_differences.specs.Names.{Named, called}
use Rattle.help_differences.specs.Differences.{Alone, IsDifference, StandsAlone, alone, name_cmp, names_of, rank}
use Rattle.help_differences.specs.Steps.{found_by, left, order_of, with_found}

-- ---- the order of names

pub names_total : IsTotalOrder name_cmp
names_total = then_total (on_total (λ (n : Named). rank n.kind) nat_cmp_total) (on_total (λ (n : Named). n.text) nat_list_cmp_total)

named_alike : (k j : Kind) (t u : List ℕ) → name_cmp (called k t) (called j u) ≡ Equal → called k t ≡ called j u
named_alike kind.Option kind.Option t u h = ap (called kind.Option) (exact_bytes t u h)
named_alike kind.Command kind.Command t u h = ap (called kind.Command) (exact_bytes t u h)
named_alike kind.Option kind.Command t u h = cc
named_alike kind.Command kind.Option t u h = cc

pub names_alike : (x y : Named) → name_cmp x y ≡ Equal → x ≡ y
names_alike x y h = named_alike x.kind y.kind x.text y.text h

names_turned : (x y : Named) → name_cmp x y ≡ Greater → name_cmp y x ≡ Less
names_turned x y h = names_total.antisymm y x ∙ ap ordering_reverse h

-- ---- what a list contains

abbrev before : Named → List Named → Type 0
before x ys = AllByRecursion (λ y. name_cmp x y ≡ Less) ys

abbrev in_order : List Named → Type 0
in_order xs = IsStrictlySortedBy name_cmp xs

here : {X : Type 0} (x : X) (xs : List X) → Contains (x ∷ xs) x
here x xs = Contains-append_left (x ∷ []) xs x (Contains-push [] x)

there : {X : Type 0} (y : X) (xs : List X) (x : X) → Contains xs x → Contains (y ∷ xs) x
there y xs x h = Contains-append_right (y ∷ []) xs x h

one : {X : Type 0} (y x : X) → Contains [] x ⊎ (y ≡ x) → y ≡ x
one y x (inl h) = absurd (omega (arith, h.1))
one y x (inr h) = h

split : {X : Type 0} (y : X) (xs : List X) (x : X) → Contains (y ∷ []) x ⊎ Contains xs x → (y ≡ x) ⊎ Contains xs x
split y xs x (inl h) = inl (one y x (Contains-push_cases [] y x h))
split y xs x (inr h) = inr h

cases : {X : Type 0} (y : X) (xs : List X) (x : X) → Contains (y ∷ xs) x → (y ≡ x) ⊎ Contains xs x
cases y xs x h = split y xs x (Contains-append_cases (y ∷ []) xs x h)

no_name : {X : Type 0} (x : X) → Contains [] x → ⊥
no_name x h = omega (arith, h.1)

not_itself : (x y : Named) → name_cmp x y ≡ Less → y ≡ x → ⊥
not_itself x y h e = let t = tied_itself names_total x in let f : name_cmp x x ≡ Less = ap (λ z. name_cmp x z) (sym e) ∙ h in cc

not_after : (x : Named) (ys : List Named) → before x ys → Contains ys x → ⊥
not_after x [] b h = no_name x h
not_after x (y ∷ ys) b h = elim (cases y ys x h) [ inl e ↦ not_itself x y b.0 e | inr k ↦ not_after x ys b.1 k ]

before_by : (x y : Named) (ys : List Named) → name_cmp x y ≡ Less → before y ys → before x ys
before_by x y [] h b = tt
before_by x y (z ∷ zs) h b = (names_total.trans x y z h b.0, before_by x y zs h b.1)

-- ---- lists in order, one after another

before_between : (n : Named) (ns : List Named) (x : Named) (xs ys : List Named) → before n (ns ++ x ∷ xs) → before n (ns ++ ys) → before n (ns ++ x ∷ ys)
before_between n [] x xs ys b d = (b.0, d)
before_between n (m ∷ ms) x xs ys b d = (b.0, before_between n ms x xs ys b.1 d.1)

between : (ns : List Named) (x : Named) (xs ys : List Named) → in_order (ns ++ x ∷ xs) → in_order (ns ++ ys) → before x ys → in_order (ns ++ x ∷ ys)
unfolding IsStrictlySortedBy
between [] x xs ys o p b = (b, p)
between (n ∷ ns) x xs ys o p b = (before_between n ns x xs ys o.0 p.0, between ns x xs ys o.1 p.1 b)

before_without : (n : Named) (ns : List Named) (x : Named) (xs : List Named) → before n (ns ++ x ∷ xs) → before n (ns ++ xs)
before_without n [] x xs b = b.1
before_without n (m ∷ ms) x xs b = (b.0, before_without n ms x xs b.1)

without : (ns : List Named) (x : Named) (xs : List Named) → in_order (ns ++ x ∷ xs) → in_order (ns ++ xs)
unfolding IsStrictlySortedBy
without [] x xs o = o.1
without (n ∷ ns) x xs o = (before_without n ns x xs o.0, without ns x xs o.1)

after : (ns : List Named) (x : Named) (xs : List Named) → in_order (ns ++ x ∷ xs) → before x xs
unfolding IsStrictlySortedBy
after [] x xs o = o.0
after (n ∷ ns) x xs o = after ns x xs o.1

-- ---- what one side alone has

-- the first name of one side, which the other has not
first_in : (s : Side) (x : Named) (xs ys : List Named) (n : Named) → StandsAlone s (x ∷ xs) ys n → (alone side.Description x ≡ alone s n) ⊎ StandsAlone s xs ys n
first_in side.Description x xs ys n h = elim (cases x xs n h.0) [ inl e ↦ inl (ap (alone side.Description) e) | inr k ↦ inr (k, h.1) ]
first_in side.Help x xs ys n h = inr (h.0, λ k. h.1 (there x xs n k))

further_in : (s : Side) (x : Named) (xs ys : List Named) (n : Named) → ¬ Contains ys x → StandsAlone s xs ys n → StandsAlone s (x ∷ xs) ys n
further_in side.Description x xs ys n apart h = (there x xs n h.0, h.1)
further_in side.Help x xs ys n apart h = (h.0, λ k. elim (cases x xs n k) [ inl e ↦ apart (subst (λ m. Contains ys m) (sym e) h.0) | inr m ↦ h.1 m ])

first_help : (s : Side) (xs : List Named) (y : Named) (ys : List Named) (n : Named) → StandsAlone s xs (y ∷ ys) n → (alone side.Help y ≡ alone s n) ⊎ StandsAlone s xs ys n
first_help side.Help xs y ys n h = elim (cases y ys n h.0) [ inl e ↦ inl (ap (alone side.Help) e) | inr k ↦ inr (k, h.1) ]
first_help side.Description xs y ys n h = inr (h.0, λ k. h.1 (there y ys n k))

further_help : (s : Side) (xs : List Named) (y : Named) (ys : List Named) (n : Named) → ¬ Contains xs y → StandsAlone s xs ys n → StandsAlone s xs (y ∷ ys) n
further_help side.Help xs y ys n apart h = (there y ys n h.0, h.1)
further_help side.Description xs y ys n apart h = (h.0, λ k. elim (cases y ys n k) [ inl e ↦ apart (subst (λ m. Contains xs m) (sym e) h.0) | inr m ↦ h.1 m ])

-- a name that both have
both_in : (s : Side) (x : Named) (xs ys : List Named) (n : Named) → StandsAlone s (x ∷ xs) (x ∷ ys) n → StandsAlone s xs ys n
both_in side.Description x xs ys n h = elim (cases x xs n h.0) [ inl e ↦ absurd (h.1 (subst (λ m. Contains (x ∷ ys) m) e (here x ys))) | inr k ↦ (k, λ m. h.1 (there x ys n m)) ]
both_in side.Help x xs ys n h = elim (cases x ys n h.0) [ inl e ↦ absurd (h.1 (subst (λ m. Contains (x ∷ xs) m) e (here x xs))) | inr k ↦ (k, λ m. h.1 (there x xs n m)) ]

both_back : (s : Side) (x : Named) (xs ys : List Named) (n : Named) → ¬ Contains xs x → ¬ Contains ys x → StandsAlone s xs ys n → StandsAlone s (x ∷ xs) (x ∷ ys) n
both_back side.Description x xs ys n apart apart_too h = (there x xs n h.0, λ k. elim (cases x ys n k) [ inl e ↦ apart (subst (λ m. Contains xs m) (sym e) h.0) | inr m ↦ h.1 m ])
both_back side.Help x xs ys n apart apart_too h = (there x ys n h.0, λ k. elim (cases x xs n k) [ inl e ↦ apart_too (subst (λ m. Contains ys m) (sym e) h.0) | inr m ↦ h.1 m ])

-- ---- the differences that are found so far

pub record IsMerged (described help ours theirs : List Named) (found : List Alone) : Type 0 where
  pub ours_in_order : in_order (names_of found ++ ours)
  pub theirs_in_order : in_order (names_of found ++ theirs)
  pub from : (a : Alone) → Contains found a ⊎ IsDifference ours theirs a → IsDifference described help a
  pub to : (a : Alone) → IsDifference described help a → Contains found a ⊎ IsDifference ours theirs a

pub merged_none : (described help : List Named) → in_order described → in_order help → IsMerged described help described help []
merged_none described help o p = record {
  ours_in_order = o;
  theirs_in_order = p;
  from = λ a h. elim h [ inl k ↦ absurd (no_name a k) | inr k ↦ k ];
  to = λ a h. inr h;
}

pushed : (found : List Alone) (n : Named) (s : Side) (rest : List Named) → in_order (names_of found ++ n ∷ rest) → in_order (names_of (found ++ alone s n ∷ []) ++ rest)
pushed found n s rest o =
    let parts : names_of (found ++ alone s n ∷ []) ≡ names_of found ++ n ∷ [] = map-append (λ (a : Alone). a.name) found (alone s n ∷ []) in
    let same : names_of (found ++ alone s n ∷ []) ++ rest ≡ names_of found ++ n ∷ rest = ap (λ ns. ns ++ rest) parts ∙ append_assoc (names_of found) (n ∷ []) rest in
    subst (λ ns. in_order ns) (sym same) o

merged_ours : (described help : List Named) (x : Named) (xs ys : List Named) (found : List Alone) → before x ys → IsMerged described help (x ∷ xs) ys found
    → IsMerged described help xs ys (found ++ alone side.Description x ∷ [])
merged_ours described help x xs ys found b m =
    let apart : ¬ Contains ys x = not_after x ys b in
    record {
      ours_in_order = pushed found x side.Description xs m.ours_in_order;
      theirs_in_order = pushed found x side.Description ys (between (names_of found) x xs ys m.ours_in_order m.theirs_in_order b);
      from = λ a h. m.from a (elim h [ inl k ↦ elim (Contains-push_cases found (alone side.Description x) a k) [ inl f ↦ inl f | inr e ↦ inr (subst (λ d. IsDifference (x ∷ xs) ys d) e (here x xs, apart)) ] | inr k ↦ inr (further_in a.stands x xs ys a.name apart k) ]);
      to = λ a h. elim (m.to a h) [ inl f ↦ inl (Contains-append_left found _ a f) | inr k ↦ elim (first_in a.stands x xs ys a.name k) [ inl e ↦ inl (subst (λ d. Contains (found ++ alone side.Description x ∷ []) d) e (Contains-push found _)) | inr r ↦ inr r ] ];
    }

merged_theirs : (described help xs : List Named) (y : Named) (ys : List Named) (found : List Alone) → before y xs → IsMerged described help xs (y ∷ ys) found
    → IsMerged described help xs ys (found ++ alone side.Help y ∷ [])
merged_theirs described help xs y ys found b m =
    let apart : ¬ Contains xs y = not_after y xs b in
    record {
      ours_in_order = pushed found y side.Help xs (between (names_of found) y ys xs m.theirs_in_order m.ours_in_order b);
      theirs_in_order = pushed found y side.Help ys m.theirs_in_order;
      from = λ a h. m.from a (elim h [ inl k ↦ elim (Contains-push_cases found (alone side.Help y) a k) [ inl f ↦ inl f | inr e ↦ inr (subst (λ d. IsDifference xs (y ∷ ys) d) e (here y ys, apart)) ] | inr k ↦ inr (further_help a.stands xs y ys a.name apart k) ]);
      to = λ a h. elim (m.to a h) [ inl f ↦ inl (Contains-append_left found _ a f) | inr k ↦ elim (first_help a.stands xs y ys a.name k) [ inl e ↦ inl (subst (λ d. Contains (found ++ alone side.Help y ∷ []) d) e (Contains-push found _)) | inr r ↦ inr r ] ];
    }

merged_both : (described help : List Named) (x : Named) (xs ys : List Named) (found : List Alone) → IsMerged described help (x ∷ xs) (x ∷ ys) found
    → IsMerged described help xs ys found
merged_both described help x xs ys found m =
    let apart : ¬ Contains xs x = not_after x xs (after (names_of found) x xs m.ours_in_order) in
    let apart_too : ¬ Contains ys x = not_after x ys (after (names_of found) x ys m.theirs_in_order) in
    record {
      ours_in_order = without (names_of found) x xs m.ours_in_order;
      theirs_in_order = without (names_of found) x ys m.theirs_in_order;
      from = λ a h. m.from a (elim h [ inl f ↦ inl f | inr k ↦ inr (both_back a.stands x xs ys a.name apart apart_too k) ]);
      to = λ a h. elim (m.to a h) [ inl f ↦ inl f | inr k ↦ inr (both_in a.stands x xs ys a.name k) ];
    }

abbrev IsMergedTo : (described help ours theirs : List Named) (found : List Alone) → Ordering → Type 0
IsMergedTo described help ours theirs found o = IsMerged described help (left (is_le o) ours) (left (is_ge o) theirs) (with_found found (found_by o ours theirs))

merged_by : (described help : List Named) (x : Named) (xs : List Named) (y : Named) (ys : List Named) (found : List Alone) (o : Ordering) → name_cmp x y ≡ o
    → IsMerged described help (x ∷ xs) (y ∷ ys) found → IsMergedTo described help (x ∷ xs) (y ∷ ys) found o
merged_by described help x xs y ys found Less e m =
    merged_ours described help x xs (y ∷ ys) found (e, before_by x y ys e (after (names_of found) y ys m.theirs_in_order)) m
merged_by described help x xs y ys found Equal e m =
    merged_both described help x xs ys found (subst (λ z. IsMerged described help (x ∷ xs) (z ∷ ys) found) (sym (names_alike x y e)) m)
merged_by described help x xs y ys found Greater e m =
    merged_theirs described help (x ∷ xs) y ys found (names_turned x y e, before_by y x xs (names_turned x y e) (after (names_of found) x xs m.ours_in_order)) m

abbrev IsMergedIf : (described help ours theirs : List Named) (found : List Alone) → Option Ordering → Type 0
IsMergedIf described help ours theirs found None = (ours ≡ []) × (theirs ≡ [])
IsMergedIf described help ours theirs found (Some o) = IsMergedTo described help ours theirs found o

merged_step : (described help ours theirs : List Named) (found : List Alone) → IsMerged described help ours theirs found
    → IsMergedIf described help ours theirs found (order_of ours theirs)
merged_step described help [] [] found m = (refl, refl)
merged_step described help (x ∷ xs) [] found m = merged_ours described help x xs [] found tt m
merged_step described help [] (y ∷ ys) found m = merged_theirs described help [] y ys found tt m
merged_step described help (x ∷ xs) (y ∷ ys) found m = merged_by described help x xs y ys found (name_cmp x y) refl m

left_map : {X Y : Type 0} (f : X → Y) (taken : Bool) (xs : List X) → map f (left taken xs) ≡ left taken (map f xs)
left_map f true [] = refl
left_map f true (x ∷ xs) = refl
left_map f false xs = refl

pub merged_more : {X : Type 0} (f : X → Named) (described help : List Named) (ours theirs our_rest their_rest : List X) (le ge : Bool) (found more : List Alone) (a : Option Alone) (o : Ordering)
    → IsMerged described help (map f ours) (map f theirs) found → Some o ≡ order_of (map f ours) (map f theirs) → a ≡ found_by o (map f ours) (map f theirs) → more ≡ with_found found a
    → le ≡ is_le o → ge ≡ is_ge o → our_rest ≡ left le ours → their_rest ≡ left ge theirs → IsMerged described help (map f our_rest) (map f their_rest) more
merged_more f described help ours theirs our_rest their_rest le ge found more a o m e d w l g p q =
    let to : IsMergedTo described help (map f ours) (map f theirs) found o = subst (λ i. IsMergedIf described help (map f ours) (map f theirs) found i) (sym e) (merged_step described help (map f ours) (map f theirs) found m) in
    let os : left (is_le o) (map f ours) ≡ map f our_rest = sym (ap (λ xs. map f xs) p ∙ left_map f le ours ∙ ap (λ b. left b (map f ours)) l) in
    let ts : left (is_ge o) (map f theirs) ≡ map f their_rest = sym (ap (λ xs. map f xs) q ∙ left_map f ge theirs ∙ ap (λ b. left b (map f theirs)) g) in
    let fs : with_found found (found_by o (map f ours) (map f theirs)) ≡ more = sym (w ∙ ap (with_found found) d) in
    subst (λ zs. IsMerged described help (map f our_rest) (map f their_rest) zs) fs
    (subst (λ zs. IsMerged described help (map f our_rest) zs (with_found found (found_by o (map f ours) (map f theirs)))) ts
    (subst (λ zs. IsMerged described help zs (left (is_ge o) (map f theirs)) (with_found found (found_by o (map f ours) (map f theirs)))) os to))

fewer_by : {X : Type 0} (x : X) (xs : List X) (y : X) (ys : List X) (o : Ordering) → length (left (is_le o) (x ∷ xs)) + length (left (is_ge o) (y ∷ ys)) < length (x ∷ xs) + length (y ∷ ys)
fewer_by x xs y ys Less = omega arith
fewer_by x xs y ys Equal = omega arith
fewer_by x xs y ys Greater = omega arith

fewer_in : {X : Type 0} (f : X → Named) (xs ys : List X) (o : Ordering) → Some o ≡ order_of (map f xs) (map f ys) → length (left (is_le o) xs) + length (left (is_ge o) ys) < length xs + length ys
fewer_in f [] [] o e = cc
fewer_in f (x ∷ xs) [] Less e = omega arith
fewer_in f (x ∷ xs) [] Equal e = cc
fewer_in f (x ∷ xs) [] Greater e = cc
fewer_in f [] (y ∷ ys) Less e = cc
fewer_in f [] (y ∷ ys) Equal e = cc
fewer_in f [] (y ∷ ys) Greater e = omega arith
fewer_in f (x ∷ xs) (y ∷ ys) o e = fewer_by x xs y ys o

pub fewer : {X : Type 0} (f : X → Named) (xs ys our_rest their_rest : List X) (le ge : Bool) (o : Ordering) → Some o ≡ order_of (map f xs) (map f ys)
    → le ≡ is_le o → ge ≡ is_ge o → our_rest ≡ left le xs → their_rest ≡ left ge ys → length our_rest + length their_rest < length xs + length ys
fewer f xs ys our_rest their_rest le ge o e l g p q =
    let h = fewer_in f xs ys o e in
    let os : length our_rest ≡ length (left (is_le o) xs) = ap length (p ∙ ap (λ b. left b xs) l) in
    let ts : length their_rest ≡ length (left (is_ge o) ys) = ap length (q ∙ ap (λ b. left b ys) g) in
    omega (arith, h, os, ts)

nothing_alone : (s : Side) (n : Named) → StandsAlone s [] [] n → ⊥
nothing_alone side.Description n h = no_name n h.0
nothing_alone side.Help n h = no_name n h.0

pub record IsAll (described help : List Named) (found : List Alone) : Type 0 where
  pub each : (a : Alone) → Contains found a ↔ IsDifference described help a
  pub found_in_order : in_order (names_of found)

all_merged : (described help : List Named) (found : List Alone) → IsMerged described help [] [] found → IsAll described help found
all_merged described help found m = record {
  each = λ a. (λ k. m.from a (inl k), λ k. elim (m.to a k) [ inl f ↦ f | inr n ↦ absurd (nothing_alone a.stands a.name n) ]);
  found_in_order = subst (λ ns. in_order ns) (append-nil (names_of found)) m.ours_in_order;
}

pub merged_done : (described help ours theirs : List Named) (found : List Alone) → IsMerged described help ours theirs found → None ≡ order_of ours theirs
    → IsAll described help found
merged_done described help ours theirs found m e =
    let empty : (ours ≡ []) × (theirs ≡ []) = subst (λ o. IsMergedIf described help ours theirs found o) (sym e) (merged_step described help ours theirs found m) in
    all_merged described help found (subst (λ ts. IsMerged described help [] ts found) empty.1 (subst (λ os. IsMerged described help os theirs found) empty.0 m))

-- ---- the same names on both sides, in any order

alone_same : (s : Side) (xs ys us vs : List Named) → ((n : Named) → Contains us n ↔ Contains xs n) → ((n : Named) → Contains vs n ↔ Contains ys n) → (n : Named) → StandsAlone s us vs n → StandsAlone s xs ys n
alone_same side.Description xs ys us vs f g n h = ((f n).0 h.0, λ k. h.1 ((g n).1 k))
alone_same side.Help xs ys us vs f g n h = ((g n).0 h.0, λ k. h.1 ((f n).1 k))

turned : (xs us : List Named) → ((n : Named) → Contains us n ↔ Contains xs n) → (n : Named) → Contains xs n ↔ Contains us n
turned xs us f n = ((f n).1, (f n).0)

pub each_same : (xs ys us vs : List Named) (found : List Alone) → ((n : Named) → Contains us n ↔ Contains xs n) → ((n : Named) → Contains vs n ↔ Contains ys n)
    → ((a : Alone) → Contains found a ↔ IsDifference us vs a) → (a : Alone) → Contains found a ↔ IsDifference xs ys a
each_same xs ys us vs found f g h a =
    (λ k. alone_same a.stands xs ys us vs f g a.name ((h a).0 k), λ k. (h a).1 (alone_same a.stands us vs xs ys (turned xs us f) (turned ys vs g) a.name k))

pub each_if : {T E : Type 0} (r : Result T E) (says : T → List Alone) (xs ys us vs our_names their_names : List Named) → our_names ≡ us → their_names ≡ vs
    → ((n : Named) → Contains us n ↔ Contains xs n) → ((n : Named) → Contains vs n ↔ Contains ys n)
    → IfOk r (λ found. (a : Alone) → Contains (says found) a ↔ IsDifference our_names their_names a) → IfOk r (λ found. (a : Alone) → Contains (says found) a ↔ IsDifference xs ys a)
each_if (Ok t) says xs ys us vs our_names their_names d e f g h =
    each_same xs ys us vs (says t) f g (subst (λ ns. (a : Alone) → Contains (says t) a ↔ IsDifference us ns a) e (subst (λ ns. (a : Alone) → Contains (says t) a ↔ IsDifference ns their_names a) d h))
each_if (Err x) says xs ys us vs our_names their_names d e f g h = tt
