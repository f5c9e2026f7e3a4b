-- What is left out at the ends of a text.
use Rattle.std.proofs.lemmas.Grind.{common_steps}
use Rattle.std.proofs.Common.{◌≡◌, ℕ, ◌+◌, ◌-◌, ◌<◌, ◌==◌, ◌||◌, Bool, true, false, cond, List, [], ◌∷◌, ◌++◌, length, drop, take, reverse, refl, sym, ap, ◌∙◌, subst, inl, inr, ◌⊎◌, arith, Option, Some, None, IfSome, take_all, length-append, one-add}
use Rattle.std.proofs.lemmas.Bool.Decides.{eqb_tells}
use Rattle.std.proofs.lemmas.Bool.{false≢true}
use Rattle.std.proofs.lemmas.List.{drop_all, reverse-append, reverse-reverse, take-append-drop, take-append-le}
use Rattle.std.proofs.lemmas.Str.{encode_ascii, len_utf8_ascii}
use Rattle.std.specs.Char.{char_set_contains, IsScalar}
use Rattle.std.specs.List.{prefix_len, suffix_len}
use Rattle.std.specs.Str.Pattern.{CutsPrefixes, CutsSuffixes, FindsPrefixBy, FindsSuffixBy, HasPassingCharAt, IsTrimEndMatches, IsTrimStartMatches}
use Rattle.description_usage.specs.Margins.{is_margin, without_back, without_front}

-- ---- the two characters

either : (c : ℕ) → is_margin c ≡ true → (c ≡ 32) ⊎ (c ≡ 10)
either c m = grind (arith, eqb_tells, false≢true)

ascii : (c : ℕ) → is_margin c ≡ true → c < 128
ascii c m = elim (either c m) [ inl e ↦ omega arith | inr e ↦ omega arith ]

a_scalar : (c : ℕ) → is_margin c ≡ true → IsScalar c
a_scalar c m = elim (either c m) [ inl e ↦ subst IsScalar (sym e) refl | inr e ↦ subst IsScalar (sym e) refl ]

swapped : (a b : ℕ) → (a == b) ≡ (b == a)
swapped a b = grind (arith, eqb_tells)

or_false : (b : Bool) → (b || false) ≡ b
or_false b = grind arith

pub margin_set : (c : ℕ) → char_set_contains (32 ∷ 10 ∷ []) c ≡ is_margin c
margin_set c = ap (λ b. (32 == c) || b) (or_false (10 == c)) ∙ ap (λ b. b || (10 == c)) (swapped 32 c) ∙ ap (λ b. (c == 32) || b) (swapped 10 c)

-- what a list of the two characters finds
abbrev pub Sets : (ℕ → Bool) → Type 0
Sets k = (c : ℕ) → char_set_contains (32 ∷ 10 ∷ []) c ≡ k c

-- ---- at the front

abbrev Front : List ℕ → Option ℕ → Type 0
Front = FindsPrefixBy is_margin

front_char : (s : List ℕ) (n : ℕ) → HasPassingCharAt is_margin s 0 n → (c : ℕ) × (is_margin c ≡ true) × (s ≡ c ∷ drop n s)
front_char s n (c, m, at) = (c, m, at.split ∙ ap (λ xs. xs ++ drop n s) (encode_ascii c (ascii c m)))

front_more : (c : ℕ) (s : List ℕ) → is_margin c ≡ true → without_front (c ∷ s) ≡ without_front s
front_more c s m = ap (λ b. drop (cond b (1 + prefix_len is_margin s) 0) (c ∷ s)) m ∙ ap (λ n. drop n (c ∷ s)) (one-add (prefix_len is_margin s))

front_by : (c : ℕ) (s : List ℕ) (b : Bool) → is_margin c ≡ b → ¬ (is_margin c ≡ true) → without_front (c ∷ s) ≡ c ∷ s
front_by c s b h3 h4 = grind arith

front_end : (s : List ℕ) → ((c : ℕ) (rest : List ℕ) → is_margin c ≡ true → s ≡ c ∷ rest → ⊥) → without_front s ≡ s
front_end s h1 = grind (arith, front_by)

front_cuts : (ns : List ℕ) (s r : List ℕ) → CutsPrefixes Front s ns r → without_front s ≡ without_front r
front_cuts [] s r h = ap without_front (sym h)
front_cuts (n ∷ ns) s r (m, before, at, e) = grind (arith, front_cuts ns s m before, front_more)

front_full : (o : Option ℕ) (r : List ℕ) → Front r o → IfSome o (λ n. n ≡ 0) → without_front r ≡ r
front_full None r h e = front_end r (λ c rest m is. false≢true (sym (h c rest (a_scalar c m) (is ∙ sym (ap (λ xs. xs ++ rest) (encode_ascii c (ascii c m))))) ∙ m))
front_full (Some n) r (c, m, at) e = absurd (let ends = at.ends in let one = len_utf8_ascii c (ascii c m) in omega arith)

front_known : (ns : List ℕ) (s r : List ℕ) → CutsPrefixes (λ w o. (k : ℕ → Bool) → Sets k → FindsPrefixBy k w o) s ns r → CutsPrefixes Front s ns r
front_known [] s r h = h
front_known (n ∷ ns) s r (m, before, at, e) = (m, front_known ns s m before, at is_margin margin_set, e)

pub front_trimmed : (s r : List ℕ) → IsTrimStartMatches (λ w o. (k : ℕ → Bool) → Sets k → FindsPrefixBy k w o) s r → r ≡ without_front s
front_trimmed s r h = sym (front_cuts h.0.0 s r (front_known h.0.0 s r h.0.1) ∙ front_full h.1.0 r (h.1.1 is_margin margin_set) h.1.2)

-- ---- at the end

abbrev Back : List ℕ → Option ℕ → Type 0
Back = FindsSuffixBy is_margin

back_char : (s : List ℕ) (n : ℕ) → HasPassingCharAt is_margin s (length s - n) (length s) → (c : ℕ) × (is_margin c ≡ true) × (s ≡ take (length s - n) s ++ c ∷ [])
back_char s n (c, m, at) = (
  c,
  m,
  sym (take-append-drop (length s - n) s) ∙ ap (λ xs. take (length s - n) s ++ xs) (at.split ∙ ap (λ xs. xs ++ drop (length s) s) (encode_ascii c (ascii c m)) ∙ ap (λ xs. c ∷ xs) (drop_all (length s) s (omega arith))),
)

back_len : (s : List ℕ) (c : ℕ) → is_margin c ≡ true → suffix_len is_margin (s ++ c ∷ []) ≡ 1 + suffix_len is_margin s
back_len s c m = ap (prefix_len is_margin) (reverse-append s (c ∷ [])) ∙ ap (λ b. cond b (1 + prefix_len is_margin (reverse s)) 0) m

back_more : (s : List ℕ) (c : ℕ) → is_margin c ≡ true → without_back (s ++ c ∷ []) ≡ without_back s
back_more s c m = grind (arith, length-append, back_len, take-append-le)

back_cuts : (ns : List ℕ) (s r : List ℕ) → CutsSuffixes Back s ns r → without_back s ≡ without_back r
back_cuts [] s r h = ap without_back (sym h)
back_cuts (n ∷ ns) s r (m, before, at, e) = grind (arith, common_steps, back_cuts ns s m before, back_more)

back_by : (c : ℕ) (s : List ℕ) (b : Bool) → is_margin c ≡ b → ¬ (is_margin c ≡ true) → prefix_len is_margin (c ∷ s) ≡ 0
back_by c s b h3 h4 = grind arith

no_suffix : (s back : List ℕ) → back ≡ reverse s → ((c : ℕ) (front : List ℕ) → is_margin c ≡ true → s ≡ front ++ c ∷ [] → ⊥) → suffix_len is_margin s ≡ 0
no_suffix s [] e h = ap (prefix_len is_margin) (sym e)
no_suffix s (c ∷ back) e h = grind (arith, reverse-reverse s, reverse-append (c ∷ []) back, back_by c back (is_margin c) refl)

back_end : (s : List ℕ) → ((c : ℕ) (front : List ℕ) → is_margin c ≡ true → s ≡ front ++ c ∷ [] → ⊥) → without_back s ≡ s
back_end s h = let none = no_suffix s (reverse s) refl h in take_all (length s - suffix_len is_margin s) s (omega arith)

back_full : (o : Option ℕ) (r : List ℕ) → Back r o → IfSome o (λ n. n ≡ 0) → without_back r ≡ r
back_full None r h e = back_end r (λ c front m is. false≢true (sym (h c front (a_scalar c m) (is ∙ sym (ap (λ xs. front ++ xs) (encode_ascii c (ascii c m))))) ∙ m))
back_full (Some n) r (c, m, at) e = absurd (let ends = at.ends in let one = len_utf8_ascii c (ascii c m) in omega arith)

back_known : (ns : List ℕ) (s r : List ℕ) → CutsSuffixes (λ w o. (k : ℕ → Bool) → Sets k → FindsSuffixBy k w o) s ns r → CutsSuffixes Back s ns r
back_known [] s r h = h
back_known (n ∷ ns) s r (m, before, at, e) = (m, back_known ns s m before, at is_margin margin_set, e)

pub back_trimmed : (s r : List ℕ) → IsTrimEndMatches (λ w o. (k : ℕ → Bool) → Sets k → FindsSuffixBy k w o) s r → r ≡ without_back s
back_trimmed s r h = sym (back_cuts h.0.0 s r (back_known h.0.0 s r h.0.1) ∙ back_full h.1.0 r (h.1.1 is_margin margin_set) h.1.2)
