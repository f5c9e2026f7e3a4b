-- Texts that stand twice in a list.
use Rattle.std.proofs.lemmas.Grind.{common_steps}
use Rattle.std.proofs.Common.{◌≡◌, ℕ, ◌+◌, ◌<◌, Bool, true, false, not, cond, ◌&&◌, ◌||◌, List, [], ◌∷◌, ◌++◌, length, take, drop, get_or, refl, sym, ap, ◌∙◌, append_assoc, append-nil, Bor, arith}
use Rattle.std.proofs.lemmas.List.{drop_more, map-append, take_more, take-append-drop}
use Rattle.std.specs.Prelude.{bytes_eq}
use Rattle.std.specs.List.{filter, list_any}
use Rattle.std.proofs.lemmas.List.Elements.{filter-append}
use Rattle.std.specs.Cmp.Lexicographic.{on_texts_equal}
use Rattle.std.proofs.lemmas.List.Folds.{list_any-append}
use Rattle.std.specs.Ordering.{eq_by_cmp}
use Rattle.description_toml.specs.Described.Steps.{words_of}
use Rattle.description_toml.specs.Described.Taken.{are_distinct, distinct}
use Rattle.description_toml.proofs.Ordered.{text_added, text_cmp, text_updated}

texts_equal : (s t : List ℕ) → bytes_eq s t ≡ bytes_eq t s
texts_equal s t = (on_texts_equal (λ (x : List ℕ). x)).symm s t

either_false : (a b : Bool) → (a || b) ≡ false → (a ≡ false) × (b ≡ false)
either_false a b h2 = grind arith

both : (a b : Bool) → (a && b) ≡ true → (a ≡ true) × (b ≡ true)
both a b h2 = grind arith

-- a text after some others
last_new : (text : List ℕ) (xs : List (List ℕ)) (t : List ℕ) → not (list_any (bytes_eq text) xs) ≡ true → bytes_eq t text ≡ false → not (list_any (bytes_eq text) (xs ++ t ∷ [])) ≡ true
last_new text xs t h other = grind (arith, list_any-append, texts_equal)

pub distinct_then : (xs : List (List ℕ)) (t : List ℕ) → are_distinct xs ≡ true → list_any (bytes_eq t) xs ≡ false → are_distinct (xs ++ t ∷ []) ≡ true
distinct_then [] t h n = refl
distinct_then (x ∷ xs) t h n =
    let (new, rest) = both (not (list_any (bytes_eq x) xs)) (are_distinct xs) h in
    let (other, more) = either_false (bytes_eq t x) (list_any (bytes_eq t) xs) n in
    rw (last_new x xs t new other, distinct_then xs t rest more) refl

again : (x t : List ℕ) (xs ys : List (List ℕ)) → bytes_eq t x ≡ true → not (list_any (bytes_eq x) (xs ++ t ∷ ys)) ≡ false
again x t xs ys same = grind (arith, list_any-append, texts_equal)

pub repeated_then : (xs : List (List ℕ)) (t : List ℕ) (ys : List (List ℕ)) → list_any (bytes_eq t) xs ≡ true → are_distinct (xs ++ t ∷ ys) ≡ false
repeated_then [] t ys h = cc
repeated_then (x ∷ xs) t ys h = grind (arith, repeated_then xs t ys, again)

-- ---- the texts gone over so far

abbrev has_text : List (Bor (List ℕ)) → Bor (List ℕ) → Bool
has_text keys q = list_any (λ k. bytes_eq q.now k.now) keys

-- the same by the order of the set
abbrev pub holds : List (Bor (List ℕ)) → Bor (List ℕ) → Bool
holds keys q = list_any (eq_by_cmp (text_cmp (λ k. k.now)) q) keys

-- after one more is put among the keys
abbrev pub IsPut : (keys more : List (Bor (List ℕ))) → Bor (List ℕ) → Type 0
IsPut keys more t = (q : Bor (List ℕ)) → holds more q ≡ cond (eq_by_cmp (text_cmp (λ k. k.now)) t q) true (holds keys q)

abbrev Seen : List (Bor (List ℕ)) → List (Bor (List ℕ)) → ℕ → Type 0
Seen keys ts i = (are_distinct (words_of (take i ts)) ≡ true) × ((q : Bor (List ℕ)) → has_text keys q ≡ list_any (bytes_eq q.now) (words_of (take i ts)))

front_words : (ts : List (Bor (List ℕ))) (i : ℕ) (d : Bor (List ℕ)) → i < length ts → words_of (take (i + 1) ts) ≡ words_of (take i ts) ++ (get_or ts i d).now ∷ []
front_words ts i d h = ap words_of (take_more ts i d h) ∙ map-append (λ t. t.now) (take i ts) (get_or ts i d ∷ [])

whole_words : (ts : List (Bor (List ℕ))) (i : ℕ) (d : Bor (List ℕ)) → i < length ts → words_of ts ≡ words_of (take i ts) ++ (get_or ts i d).now ∷ words_of (drop (i + 1) ts)
whole_words ts i d h = ap words_of (sym (take-append-drop i ts) ∙ ap (λ us. take i ts ++ us) (drop_more ts i d h)) ∙ map-append (λ t. t.now) (take i ts) (get_or ts i d ∷ drop (i + 1) ts)

not_false : (b : Bool) → not b ≡ false → b ≡ true
not_false b h1 = grind arith

not_true : (b : Bool) → not b ≡ true → b ≡ false
not_true b h1 = grind arith

pub repeated_here : (keys ts : List (Bor (List ℕ))) (i : ℕ) (d : Bor (List ℕ)) (added : Bool) → i < length ts → Seen keys ts i → added ≡ not (holds keys (get_or ts i d)) → added ≡ false → false ≡ are_distinct (words_of ts)
repeated_here keys ts i d added h s e f = grind (arith, not_false (has_text keys (get_or ts i d)), text_added, whole_words ts i d h, repeated_then (words_of (take i ts)) (get_or ts i d).now (words_of (drop (i + 1) ts)))

one_more : (b c : Bool) (rest : Bool) → c ≡ rest → cond b true c ≡ (rest || (b || false))
one_more b c rest h3 = grind arith

abbrev Held : List (Bor (List ℕ)) → List (Bor (List ℕ)) → ℕ → Type 0
Held keys ts i = (q : Bor (List ℕ)) → has_text keys q ≡ list_any (bytes_eq q.now) (words_of (take i ts))

held_more : (keys more ts : List (Bor (List ℕ))) (i : ℕ) (d : Bor (List ℕ)) → i < length ts → Held keys ts i → IsPut keys more (get_or ts i d) → Held more ts (i + 1)
held_more keys more ts i d h s u q =
    let text = (get_or ts i d).now in
    text_updated (λ k. k.now) keys more (get_or ts i d) u q ∙ ap (λ b. cond b true (has_text keys q)) (texts_equal text q.now) ∙ one_more (bytes_eq q.now text) (has_text keys q) (list_any (bytes_eq q.now) (words_of (take i ts))) (s q)
    ∙ sym (ap (list_any (bytes_eq q.now)) (front_words ts i d h) ∙ list_any-append (bytes_eq q.now) (words_of (take i ts)) (text ∷ []))

pub seen_more : (keys more ts : List (Bor (List ℕ))) (i : ℕ) (d : Bor (List ℕ)) (added : Bool) → i < length ts → Seen keys ts i → added ≡ not (holds keys (get_or ts i d)) → added ≡ true
    → IsPut keys more (get_or ts i d) → Seen more ts (i + 1)
seen_more keys more ts i d added h s e f u =
    let absent : has_text keys (get_or ts i d) ≡ false = not_true (has_text keys (get_or ts i d)) (sym (text_added (λ k. k.now) keys (get_or ts i d) added e) ∙ f) in (
      ap are_distinct (front_words ts i d h) ∙ distinct_then (words_of (take i ts)) (get_or ts i d).now s.0 (sym (s.1 (get_or ts i d)) ∙ absent),
      held_more keys more ts i d h s.1 u,
    )

-- ---- each text once

-- a text after others, which do not hold it, or do
once_then : (x t : List ℕ) (xs : List (List ℕ)) (b : Bool) → bytes_eq x t ≡ b → filter (λ o. not (bytes_eq x o)) (distinct xs ++ t ∷ []) ≡ filter (λ o. not (bytes_eq x o)) (distinct xs) ++ cond (not b) (t ∷ []) []
once_then x t xs b e = filter-append (λ o. not (bytes_eq x o)) (distinct xs) (t ∷ []) ∙ ap (λ c. filter (λ o. not (bytes_eq x o)) (distinct xs) ++ cond (not c) (t ∷ []) []) e

distinct_new : (xs : List (List ℕ)) (t : List ℕ) → list_any (bytes_eq t) xs ≡ false → distinct (xs ++ t ∷ []) ≡ distinct xs ++ t ∷ []
distinct_new [] t h = refl
distinct_new (x ∷ xs) t h =
    let (other, absent) = either_false (bytes_eq t x) (list_any (bytes_eq t) xs) h in
    ap (λ ts. x ∷ filter (λ o. not (bytes_eq x o)) ts) (distinct_new xs t absent) ∙ ap (λ ts. x ∷ ts) (once_then x t xs false (texts_equal x t ∙ other))

distinct_old : (xs : List (List ℕ)) (t : List ℕ) → list_any (bytes_eq t) xs ≡ true → distinct (xs ++ t ∷ []) ≡ distinct xs
distinct_old [] t h = cc
distinct_old (x ∷ xs) t h = by (list_any (bytes_eq t) xs) refl (bytes_eq t x) refl h (distinct_old xs t) where
  by : (a : Bool) → list_any (bytes_eq t) xs ≡ a → (b : Bool) → bytes_eq t x ≡ b → (b || a) ≡ true → (list_any (bytes_eq t) xs ≡ true → distinct (xs ++ t ∷ []) ≡ distinct xs) → distinct (x ∷ (xs ++ t ∷ [])) ≡ distinct (x ∷ xs)
  by true e b f g rest = ap (λ ts. x ∷ filter (λ o. not (bytes_eq x o)) ts) (rest e)
  by false e true f g rest =
      ap (λ ts. x ∷ filter (λ o. not (bytes_eq x o)) ts) (distinct_new xs t e) ∙ ap (λ ts. x ∷ ts) (once_then x t xs true (texts_equal x t ∙ f) ∙ append-nil (filter (λ o. not (bytes_eq x o)) (distinct xs)))
  by false e false f g rest = cc

-- the first texts, each once, after those that stood there
abbrev pub Kept : (old new : List (List ℕ)) → List (Bor (List ℕ)) → List (Bor (List ℕ)) → ℕ → Type 0
Kept old new keys ts i = (new ≡ old ++ distinct (words_of (take i ts))) × Held keys ts i

module _ (old w : List (List ℕ)) (keys more ts : List (Bor (List ℕ))) (i : ℕ) (d : Bor (List ℕ)) (added : Bool) (below : i < length ts) (kept : Kept old w keys ts i) (is : added ≡ not (holds keys (get_or ts i d)))
    (u : IsPut keys more (get_or ts i d)) where
  by_text : added ≡ not (has_text keys (get_or ts i d))
  by_text = text_added (λ k. k.now) keys (get_or ts i d) added is

  pub kept_new : (v : List (List ℕ)) → added ≡ true → v ≡ w ++ (get_or ts i d).now ∷ [] → Kept old v more ts (i + 1)
  kept_new v f e = grind (arith, common_steps, not_true (has_text keys (get_or ts i d)), by_text, append_assoc old (distinct (words_of (take i ts))), front_words ts i d below, distinct_new (words_of (take i ts)), held_more keys more ts i d below kept.1 u)

  pub kept_old : added ≡ false → Kept old w more ts (i + 1)
  kept_old f = grind (arith, common_steps, not_false (has_text keys (get_or ts i d)), by_text, front_words ts i d below, distinct_old (words_of (take i ts)), held_more keys more ts i d below kept.1 u)
