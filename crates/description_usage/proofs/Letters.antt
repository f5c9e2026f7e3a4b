-- A text in which some ASCII characters are others is UTF-8 too.
use Rattle.std.proofs.Common.{◌≡◌, ℕ, suc, ◌<◌, ◌≤◌, Bool, true, false, cond, ◌&&◌, ◌⊎◌, inl, inr, List, [], ◌∷◌, ◌++◌, length, get_or, refl, sym, ap, ◌∙◌, arith, append-nil, subst}
use Rattle.std.specs.Str.{IsUtf8}
use Rattle.std.proofs.lemmas.Bool.Decides.{nat_tests}
use Rattle.std.proofs.lemmas.Bool.{and_parts, cases_lt}
use Rattle.std.proofs.lemmas.Str.{IsUtf8-append, IsUtf8-from_ascii, IsUtf8-nil, encode_ascii, inside_one}
use Rattle.std.proofs.lemmas.Str.Ascii.{IsAscii-cons, IsAscii-nil}
use lib.Utf8.{encode, encodes, scalars}
use Rattle.description_usage.specs.Forms.{is_lone, open_after, shaped, shaped_after, stand_in}

abbrev pub AreAlike : List ℕ → List ℕ → Type 0
AreAlike [] [] = Unit {0}
AreAlike [] (y ∷ ys) = ⊥
AreAlike (x ∷ xs) [] = ⊥
AreAlike (x ∷ xs) (y ∷ ys) = ((y ≡ x) ⊎ ((x < 128) × (y < 128))) × AreAlike xs ys

parted : (xs zs ys : List ℕ) → AreAlike (xs ++ zs) ys → (us : List ℕ) × ((vs : List ℕ) × ((ys ≡ us ++ vs) × (AreAlike xs us × AreAlike zs vs)))
parted [] zs ys h = ([], (ys, (refl, (tt, h))))
parted (x ∷ xs) zs [] h = absurd h
parted (x ∷ xs) zs (y ∷ ys) h = let below = parted xs zs ys h.1 in (y ∷ below.0, (below.1.0, (ap (λ w. y ∷ w) below.1.1.0, ((h.0, below.1.1.1.0), below.1.1.1.1))))

high : (xs us : List ℕ) → ((k : ℕ) → k < length xs → 128 ≤ get_or xs k 0) → AreAlike xs us → us ≡ xs
high [] [] h a = refl
high [] (u ∷ us) h a = absurd a
high (x ∷ xs) [] h a = absurd a
high (x ∷ xs) (u ∷ us) h a =
    let first : 128 ≤ x = h 0 (omega arith) in
    let same : u ≡ x = elim a.0 [ inl e ↦ e | inr p ↦ let low : x < 128 = p.0 in absurd (omega arith) ] in
    ap (λ w. w ∷ us) same ∙ ap (λ ws. x ∷ ws) (high xs us (λ k l. h (suc k) (omega arith)) a.1)

low : (c : ℕ) (us : List ℕ) → c < 128 → AreAlike (c ∷ []) us → IsUtf8 us
low c [] small a = absurd a
low c (u ∷ v ∷ us) small a = absurd a.1
low c (u ∷ []) small a =
    let tiny : u < 128 = elim a.0 [ inl e ↦ omega arith | inr p ↦ p.1 ] in
    IsUtf8-from_ascii (u ∷ []) (IsAscii-cons u [] tiny IsAscii-nil)

inner : (c k : ℕ) → 128 ≤ c → k < length (encode c) → 128 ≤ get_or (encode c) k 0
inner c k big within = by (get_or (encode c) k 0) refl where
  by : (b : ℕ) → get_or (encode c) k 0 ≡ b → 128 ≤ get_or (encode c) k 0
  by b e = elim (cases_lt (get_or (encode c) k 0) 128) [ inl l ↦ let same : c ≡ get_or (encode c) k 0 = inside_one c [] (encode c) k (sym (append-nil (encode c))) within l in absurd (omega arith) | inr g ↦ g ]

one : (c : ℕ) (us : List ℕ) → IsUtf8 (encode c) → AreAlike (encode c) us → IsUtf8 us
one c us utf8 a = elim (cases_lt c 128) [ inl small ↦ low c us small (subst (λ xs. AreAlike xs us) (encode_ascii c small) a) | inr big ↦ subst IsUtf8 (sym (high (encode c) us (λ k within. inner c k big within) a)) utf8 ]

all : (cs ys : List ℕ) → scalars cs ≡ true → AreAlike (encodes cs) ys → IsUtf8 ys
all [] [] s a = IsUtf8-nil
all [] (y ∷ ys) s a = absurd a
all (c ∷ cs) ys s a =
    let both = and_parts _ (scalars cs) s in
    let cut = parted (encode c) (encodes cs) ys a in
    subst IsUtf8 (sym cut.1.1.0) (IsUtf8-append cut.0 cut.1.0 (one c cut.0 (c ∷ [], (ap (λ b. b && true) both.0, append-nil (encode c))) cut.1.1.1.0) (all cs cut.1.0 both.1 cut.1.1.1.1))

pub alike_utf8 : (xs ys : List ℕ) → IsUtf8 xs → AreAlike xs ys → IsUtf8 ys
alike_utf8 xs ys utf8 a = all utf8.0 ys utf8.1.0 (subst (λ zs. AreAlike zs ys) (sym utf8.1.1) a)

-- ---- brackets in no pair

stood : (b : ℕ) → (stand_in b ≡ b) ⊎ ((b < 128) × (stand_in b < 128))
stood b = elim (cases_lt b 128) [ inl small ↦ inr (small, small_stood b small) | inr big ↦ inl (big_stood b big) ] where
  small_stood : (b : ℕ) → b < 128 → stand_in b < 128
  small_stood b h = grind (arith, nat_tests)

  big_stood : (b : ℕ) → 128 ≤ b → stand_in b ≡ b
  big_stood b h = grind (arith, nat_tests)

chosen : (t : Bool) (b : ℕ) → (cond t (stand_in b) b ≡ b) ⊎ ((b < 128) × (cond t (stand_in b) b < 128))
chosen true b = stood b
chosen false b = inl refl

shaped_alike : (opened bs : List ℕ) → AreAlike bs (shaped_after opened bs)
shaped_alike opened [] = tt
shaped_alike opened (b ∷ bs) = (chosen (is_lone opened b bs) b, shaped_alike (open_after opened b) bs)

pub shaped_utf8 : (bs : List ℕ) → IsUtf8 bs → IsUtf8 (shaped bs)
shaped_utf8 bs utf8 = alike_utf8 bs (shaped bs) utf8 (shaped_alike [] bs)
