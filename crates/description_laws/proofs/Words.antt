-- Words with a blank between two: which words they are can be read from the text.
use Rattle.std.proofs.Common.{◌≡◌, ℕ, suc, ◌<◌, Bool, true, false, not, ◌&&◌, ◌==◌, List, [], ◌∷◌, ◌++◌, flat_map, length, codes, get_or, refl, sym, ap, ap₂, ◌∙◌, ⊎_elim, arith}
use Rattle.std.specs.List.{list_all}
use Rattle.std.specs.Prelude.{chars}
use Rattle.std.specs.Str.{IsUtf8, NonePass}
use Rattle.std.proofs.lemmas.Bool.{and_from, and_parts, cases_Bool, false≢true}
use Rattle.std.proofs.lemmas.Bool.Decides.{nat_tests}
use Rattle.std.proofs.lemmas.Str.{NoCharPasses-byte, encodes-chars}
use Rattle.html_page.specs.Laws.{is_parted}
use Rattle.description_pages.specs.Sections.{joined_names}
use Rattle.html_page.proofs.Among.{Each}

-- ---- without blanks

abbrev pub NoBlank : List ℕ → Type 0
NoBlank [] = Unit {0}
NoBlank (b ∷ bs) = ((b == 32) ≡ false) × NoBlank bs

abbrev pub HasBytes : List ℕ → Type 0
HasBytes [] = ⊥
HasBytes (b ∷ bs) = Unit {0}

pub record IsWord (text : List ℕ) : Type 0 where
  pub bytes : HasBytes text
  pub no_blank : NoBlank text

abbrev after : List (List ℕ) → List ℕ
after words = flat_map (λ word. codes " " ++ word) words

-- ---- separated

blank_after : (b : ℕ) (rest : List ℕ) → (b == 32) ≡ false → is_parted rest ≡ true → is_parted (b ∷ rest) ≡ true
blank_after b [] h k = ap not h
blank_after b (c ∷ rest) h k = and_from (not (b == 32 && c == 32)) (is_parted (c ∷ rest)) (ap (λ x. not (x && c == 32)) h) k

before_word : (c : ℕ) (rest : List ℕ) → (c == 32) ≡ false → is_parted (c ∷ rest) ≡ true → is_parted (32 ∷ c ∷ rest) ≡ true
before_word c rest h k = and_from (not (32 == 32 && c == 32)) (is_parted (c ∷ rest)) (ap (λ x. not x) h) k

parted_word : (word rest : List ℕ) → NoBlank word → is_parted rest ≡ true → is_parted (word ++ rest) ≡ true
parted_word [] rest h k = k
parted_word (b ∷ word) rest h k = blank_after b (word ++ rest) h.0 (parted_word word rest h.1 k)

parted_after : (words : List (List ℕ)) → Each IsWord words → is_parted (after words) ≡ true
parted_after [] ws = refl
parted_after ([] ∷ words) ws = absurd ws.0.bytes
parted_after ((c ∷ word) ∷ words) ws = before_word c (word ++ after words) ws.0.no_blank.0 (parted_word (c ∷ word) (after words) ws.0.no_blank (parted_after words ws.1))

pub words_parted : (words : List (List ℕ)) → Each IsWord words → is_parted (joined_names (codes " ") words) ≡ true
words_parted [] ws = refl
words_parted (word ∷ words) ws = parted_word word (after words) ws.0.no_blank (parted_after words ws.1)

-- ---- distinguished

head_same : (a b : ℕ) (xs ys : List ℕ) → a ∷ xs ≡ b ∷ ys → a ≡ b
head_same a b xs ys e = cc

tail_same : (a b : ℕ) (xs ys : List ℕ) → a ∷ xs ≡ b ∷ ys → xs ≡ ys
tail_same a b xs ys e = cc

no_start : (b : ℕ) (xs : List ℕ) → [] ≡ b ∷ xs → ⊥
no_start b xs e = cc

is_blank : (b : ℕ) → (b == 32) ≡ false → 32 ≡ b → ⊥
is_blank b h e = false≢true (sym h ∙ ap (λ x. x == 32) (sym e))

no_word_start : (words : List (List ℕ)) (b : ℕ) (rest : List ℕ) → (b == 32) ≡ false → after words ≡ b ∷ rest → ⊥
no_word_start [] b rest h e = no_start b rest e
no_word_start (word ∷ words) b rest h e = is_blank b h (head_same 32 b (word ++ after words) rest e)

word_told : (x y : List ℕ) (xs ys : List (List ℕ)) → NoBlank x → NoBlank y → x ++ after xs ≡ y ++ after ys → (x ≡ y) × (after xs ≡ after ys)
word_told [] [] xs ys h k e = (refl, e)
word_told [] (b ∷ y) xs ys h k e = absurd (no_word_start xs b (y ++ after ys) k.0 e)
word_told (a ∷ x) [] xs ys h k e = absurd (no_word_start ys a (x ++ after xs) h.0 (sym e))
word_told (a ∷ x) (b ∷ y) xs ys h k e =
    let rest = word_told x y xs ys h.1 k.1 (tail_same a b (x ++ after xs) (y ++ after ys) e) in
    (ap₂ (λ c w. c ∷ w) (head_same a b (x ++ after xs) (y ++ after ys) e) rest.0, rest.1)

after_told : (xs ys : List (List ℕ)) → Each NoBlank xs → Each NoBlank ys → after xs ≡ after ys → xs ≡ ys
after_told [] [] hs ks e = refl
after_told [] (y ∷ ys) hs ks e = absurd (no_start 32 (y ++ after ys) e)
after_told (x ∷ xs) [] hs ks e = absurd (no_start 32 (x ++ after xs) (sym e))
after_told (x ∷ xs) (y ∷ ys) hs ks e =
    let first = word_told x y xs ys hs.0 ks.0 (tail_same 32 32 (x ++ after xs) (y ++ after ys) e) in
    ap₂ (λ w ws. w ∷ ws) first.0 (after_told xs ys hs.1 ks.1 first.1)

no_blanks : (words : List (List ℕ)) → Each IsWord words → Each NoBlank words
no_blanks [] h = tt
no_blanks (word ∷ words) h = (h.0.no_blank, no_blanks words h.1)

-- of words that lead from one name on
pub words_told : (x y : List ℕ) (xs ys : List (List ℕ)) → Each IsWord (x ∷ xs) → Each IsWord (y ∷ ys) → joined_names (codes " ") (x ∷ xs) ≡ joined_names (codes " ") (y ∷ ys) → x ∷ xs ≡ y ∷ ys
words_told x y xs ys h k e =
    let first = word_told x y xs ys h.0.no_blank k.0.no_blank e in
    ap₂ (λ w ws. w ∷ ws) first.0 (after_told xs ys (no_blanks xs h.1) (no_blanks ys k.1) first.1)

-- ---- texts of characters that are not blanks

none_pass : (p : ℕ → Bool) (cs : List ℕ) → list_all (λ c. not (p c)) cs ≡ true → NonePass p cs
none_pass p [] h = tt
none_pass p (c ∷ cs) h = let both = and_parts (not (p c)) (list_all (λ c. not (p c)) cs) h in (not_true (p c) both.0, none_pass p cs both.1) where
  not_true : (b : Bool) → not b ≡ true → b ≡ false
  not_true true e = absurd (false≢true e)
  not_true false e = refl

no_blank_at : (text : List ℕ) → ((i : ℕ) → i < length text → (get_or text i 0 == 32) ≡ false) → NoBlank text
no_blank_at [] h = tt
no_blank_at (b ∷ text) h = (h 0 (omega arith), no_blank_at text (λ i l. h (suc i) (omega arith)))

module _ (p : ℕ → Bool) (blank_passes : p 32 ≡ true) (text : List ℕ) (utf8 : IsUtf8 text) (none : list_all (λ c. not (p c)) (chars text) ≡ true) where
  byte_there : (i : ℕ) → i < length text → get_or text i 0 ≡ 32 → ⊥
  byte_there i l e =
      let fails = NoCharPasses-byte p text i (chars text, encodes-chars text utf8, none_pass p (chars text) none) l (omega (arith, e)) in
      false≢true (sym fails ∙ ap p e ∙ blank_passes)

  no_byte : (i : ℕ) → i < length text → (get_or text i 0 == 32) ≡ false
  no_byte i l = ⊎_elim (λ (e : (get_or text i 0 == 32) ≡ true). absurd (byte_there i l (eq_from (get_or text i 0) e))) (λ e. e) (cases_Bool (get_or text i 0 == 32)) where
    eq_from : (n : ℕ) → (n == 32) ≡ true → n ≡ 32
    eq_from n h = grind (arith, nat_tests)

  pub no_blank_in : NoBlank text
  no_blank_in = no_blank_at text no_byte
