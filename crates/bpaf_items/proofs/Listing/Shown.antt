-- Each key of a list is shown once, at its first place.
use Rattle.std.specs.Prelude.{if◌then◌else◌, ◌++◌, ◌+◌, ◌||◌, ◌∷◌, ◌≡◌, ◌≤◌}
use Rattle.bpaf_items.proofs.Words.{ℕ, Bool, true, false, List, [], map, length, get_or, refl, sym, ap, ◌∙◌, subst, arith, filter, take, count_by, Contains, list_any, or-false, or-true, list_any-append, sum_by-cons, get_or-le-sum_by, Leaf, Entry, listed, key_of, same_key, Placed, placed, placed_after, has_key_of, is_shown, shown_places, shown_entries, KeyOnce}
use Rattle.bpaf_items.specs.Steps.KeyOrder.{keys_equiv}
use Rattle.bpaf_items.proofs.Listing.Placing.{chosen-append, placed_entries, kept_map}

-- a list with one more entry shows what it showed, and then that entry where it is shown
pub shown-push : (es : List Entry) (e : Entry) → shown_entries (es ++ e ∷ []) ≡ shown_entries es ++ (if is_shown (es, e) then e ∷ [] else [])
shown-push es e = chosen-append is_shown [] es (e ∷ []) ∙ ap (λ x. shown_entries es ++ x) (kept_map (is_shown (es, e)) (es, e))

-- two items with one key: what has the key of one has that of the other
alike : (l m : Leaf) → same_key (key_of l) (key_of m) ≡ true → (e : Entry) → has_key_of l e ≡ has_key_of m e
alike l m h (listed k) = keys_equiv.congr (key_of l) (key_of m) (key_of k) h
alike l m h e = refl

any_alike : (l m : Leaf) → same_key (key_of l) (key_of m) ≡ true → (es : List Entry) → list_any (has_key_of l) es ≡ list_any (has_key_of m) es
any_alike l m h [] = refl
any_alike l m h (e ∷ es) = rw (alike l m h e, any_alike l m h es) refl

module _ (l : Leaf) where
  abbrev has : Entry → Bool
  has = has_key_of l

  abbrev at : Placed → Bool
  at p = has p.1

  -- after an entry
  seen-push : (before : List Entry) (e : Entry) → list_any has (before ++ e ∷ []) ≡ (list_any has before || (has e || false))
  seen-push before e = list_any-append has before (e ∷ [])

  -- an entry without the key
  passed : (b : Bool) (p : Placed) (ps : List Placed) → at p ≡ false → filter at (if b then p ∷ ps else ps) ≡ filter at ps
  passed b p ps h3 = grind arith

  -- an item with the key is not shown where the key was seen
  hidden : (before : List Entry) (e : Entry) → list_any has before ≡ true → has e ≡ true → is_shown (before, e) ≡ false
  hidden before (listed m) h y = let old : list_any (has_key_of m) before ≡ true = sym (any_alike l m y before) ∙ h in rw old refl
  hidden before e h y = cc

  -- and is shown where it was not
  new : (before : List Entry) (e : Entry) → list_any has before ≡ false → has e ≡ true → is_shown (before, e) ≡ true
  new before (listed m) h y = let fresh : list_any (has_key_of m) before ≡ false = sym (any_alike l m y before) ∙ h in rw fresh refl
  new before e h y = cc

  later_step : (before es : List Entry) (e : Entry) (b : Bool) → has e ≡ b → list_any has before ≡ true → filter at (filter is_shown (placed_after (before ++ e ∷ []) es)) ≡ [] → filter at (filter is_shown (placed_after before (e ∷ es))) ≡ []
  later_step before es e false n h later = passed (is_shown (before, e)) (before, e) (filter is_shown (placed_after (before ++ e ∷ []) es)) n ∙ later
  later_step before es e true y h later = rw (hidden before e h y) later

  -- once the key was seen, no other place of it is shown
  none_later : (before es : List Entry) → list_any has before ≡ true → filter at (filter is_shown (placed_after before es)) ≡ []
  none_later before [] h = refl
  none_later before (e ∷ es) h = later_step before es e (has e) refl h (none_later (before ++ e ∷ []) es (seen-push before e ∙ ap (λ b. b || (has e || false)) h))

  first_step : (before es : List Entry) (e : Entry) (b : Bool) → has e ≡ b → list_any has before ≡ false
      → (list_any has (before ++ e ∷ []) ≡ false → filter at (filter is_shown (placed_after (before ++ e ∷ []) es)) ≡ take 1 (filter at (placed_after (before ++ e ∷ []) es)))
      → filter at (filter is_shown (placed_after before (e ∷ es))) ≡ take 1 (filter at (placed_after before (e ∷ es)))
  first_step before es e false n h f = grind (arith, seen-push, or-false, passed)
  first_step before es e true y h f = grind (arith, seen-push, or-true, new, none_later)

  first_alone : (before es : List Entry) → list_any has before ≡ false → filter at (filter is_shown (placed_after before es)) ≡ take 1 (filter at (placed_after before es))
  first_alone before [] h = refl
  first_alone before (e ∷ es) h = first_step before es e (has e) refl h (first_alone (before ++ e ∷ []) es)

  -- counts

  count_step : (b : Bool) (p : Placed) (ps : List Placed) (n : ℕ) → at p ≡ b → n ≡ length (filter at ps) → (if at p then 1 else 0) + n ≡ length (filter at (p ∷ ps))
  count_step b p ps n h4 h5 = grind arith

  counted : (ps : List Placed) → count_by has (map (λ p. p.1) ps) ≡ length (filter at ps)
  counted [] = refl
  counted (p ∷ ps) = sum_by-cons (λ x. if has x then 1 else 0) p.1 (map (λ q. q.1) ps) ∙ count_step (at p) p ps (count_by has (map (λ q. q.1) ps)) refl (counted ps)

one_of_some : (ps : List Placed) → 1 ≤ length ps → length (take 1 ps) ≡ 1
one_of_some ps h1 = grind arith

pub key_once : KeyOnce
key_once es l = record { first = alone; once = once } where
  alone : filter (at l) (shown_places es) ≡ take 1 (filter (at l) (placed es))
  alone = first_alone l [] es refl

  once : Contains es (listed l) → count_by (has_key_of l) (shown_entries es) ≡ 1
  once c =
      let itself : same_key (key_of l) (key_of l) ≡ true = keys_equiv.refl (key_of l) in
      let found : has_key_of l (get_or es c.0 (listed l)) ≡ true = ap (has_key_of l) c.2 ∙ itself in
      let term : (if has_key_of l (get_or es c.0 (listed l)) then 1 else 0) ≤ count_by (has_key_of l) es = get_or-le-sum_by (λ x. if has_key_of l x then 1 else 0) es c.0 (listed l) c.1 in
      let some : 1 ≤ count_by (has_key_of l) es = subst (λ b. (if b then 1 else 0) ≤ count_by (has_key_of l) es) found term in
      let all : count_by (has_key_of l) es ≡ length (filter (at l) (placed es)) = ap (count_by (has_key_of l)) (sym (placed_entries [] es)) ∙ counted l (placed es) in
      counted l (shown_places es) ∙ ap length alone ∙ one_of_some (filter (at l) (placed es)) (subst (λ n. 1 ≤ n) all some)
