-- What an id says: the title of the chapter that it is of, and what follows the id of the chapter's section.
use Rattle.std.proofs.Common.{◌≡◌, ℕ, ◌+◌, ◌*◌, ◌%◌, ◌/◌, ◌<◌, ◌^◌, ◌==◌, Bool, true, false, List, [], ◌∷◌, ◌++◌, codes, decimal, if◌then◌else◌, refl, sym, ap, ap₂, ◌∙◌, subst, inl, inr, ◌⊎◌, arith, append_assoc, append-nil}
use Rattle.std.specs.Prelude.{not, ◌&&◌}
use Rattle.std.specs.Char.{digit_char, digit_value}
use Rattle.std.proofs.lemmas.Bool.{and_parts, eqb-true, false≢true, ltb-true}
use Rattle.std.specs.Str.Parse.{IsNumeral}
use Rattle.std.proofs.lemmas.Fmt.{decimal_injective, decimal_is_IsNumeral}
use Rattle.std.proofs.Math.Nat.{div-add-mod}
use Rattle.html_page.specs.Ids.{chapter_id, entry_id, heading_id, id_byte, id_text, is_id_byte, numbered, title_byte}
use Rattle.html_page.specs.Laws.{is_parted}
use Rattle.html_page.proofs.Among.{Each, each_append}

-- ---- up to a colon

-- nothing, or a colon first
abbrev Colon : List ℕ → Type 0
Colon [] = Unit {0}
Colon (b ∷ bs) = b ≡ 58

abbrev NoColon : List ℕ → Type 0
NoColon bs = Each (λ b. b ≡ 58 → ⊥) bs

split : (a b t u : List ℕ) → NoColon a → NoColon b → Colon t → Colon u → a ++ t ≡ b ++ u → (a ≡ b) × (t ≡ u)
split [] [] t u na nb ct cu e = (refl, e)
split [] (y ∷ b) [] u na nb ct cu e = cc
split [] (y ∷ b) (c ∷ t) u na nb ct cu e = let is : y ≡ 58 = cc in absurd (nb.0 is)
split (x ∷ a) [] t [] na nb ct cu e = cc
split (x ∷ a) [] t (c ∷ u) na nb ct cu e = let is : x ≡ 58 = cc in absurd (na.0 is)
split (x ∷ a) (y ∷ b) t u na nb ct cu e = grind (arith, split a b t u na.1 nb.1 ct cu, ap₂)

-- ---- a word

digit_colon : (d : ℕ) → digit_char d ≡ 58 → ⊥
digit_colon d = grind (arith, ltb-true)

digit_told : (c d : ℕ) → digit_char c ≡ digit_char d → c ≡ d
digit_told c d = grind (arith, ltb-true)

byte_colon : (b : ℕ) → NoColon (id_byte b)
byte_colon b = grind (arith, false≢true, digit_colon)

text_colon : (text : List ℕ) → NoColon (id_text text)
text_colon [] = tt
text_colon (b ∷ bs) = each_append (λ c. c ≡ 58 → ⊥) (id_byte b) (id_text bs) (byte_colon b) (text_colon bs)

same_parts : (x y : ℕ) → x / 16 ≡ y / 16 → x % 16 ≡ y % 16 → x ≡ y
same_parts x y h k = sym (div-add-mod x 16) ∙ ap₂ (λ a b. 16 * a + b) h k ∙ div-add-mod y 16

byte_told : (x y : ℕ) (t u : List ℕ) → id_byte x ++ t ≡ id_byte y ++ u → (x ≡ y) × (t ≡ u)
byte_told x y t u = by (is_id_byte x) refl (is_id_byte y) refl where
  by : (a : Bool) → is_id_byte x ≡ a → (b : Bool) → is_id_byte y ≡ b → (if a then x ∷ [] else 46 ∷ digit_char (x / 16) ∷ digit_char (x % 16) ∷ []) ++ t ≡ (if b then y ∷ [] else 46 ∷ digit_char (y / 16) ∷ digit_char (y % 16) ∷ []) ++ u → (x ≡ y) × (t ≡ u)
  by true h true k e = let first : x ≡ y = cc in let rest : t ≡ u = cc in (first, rest)
  by true h false k e = let dot : x ≡ 46 = cc in absurd (false≢true (sym (ap is_id_byte dot) ∙ h))
  by false h true k e = let dot : y ≡ 46 = cc in absurd (false≢true (sym (ap is_id_byte dot) ∙ k))
  by false h false k e =
      let high : digit_char (x / 16) ≡ digit_char (y / 16) = cc in
      let low : digit_char (x % 16) ≡ digit_char (y % 16) = cc in
      let rest : t ≡ u = cc in
      (same_parts x y (digit_told (x / 16) (y / 16) high) (digit_told (x % 16) (y % 16) low), rest)

-- the first byte of what stands for a byte
first_of_byte : (b : ℕ) → (c : ℕ) × (cs : List ℕ) × (id_byte b ≡ c ∷ cs)
first_of_byte b = by (is_id_byte b) where
  by : (t : Bool) → (c : ℕ) × (cs : List ℕ) × ((if t then b ∷ [] else 46 ∷ digit_char (b / 16) ∷ digit_char (b % 16) ∷ []) ≡ c ∷ cs)
  by true = (b, [], refl)
  by false = (46, digit_char (b / 16) ∷ digit_char (b % 16) ∷ [], refl)

not_nothing : (b : ℕ) (bs : List ℕ) → [] ≡ id_byte b ++ bs → ⊥
not_nothing b bs e = let (c, cs, is) = first_of_byte b in let more : [] ≡ c ∷ (cs ++ bs) = e ∙ ap (λ x. x ++ bs) is in cc

pub text_told : (v w : List ℕ) → id_text v ≡ id_text w → v ≡ w
text_told [] [] e = refl
text_told [] (y ∷ w) e = absurd (not_nothing y (id_text w) e)
text_told (x ∷ v) [] e = absurd (not_nothing x (id_text v) (sym e))
text_told (x ∷ v) (y ∷ w) e = let both = byte_told x y (id_text v) (id_text w) e in ap₂ (λ c cs. c ∷ cs) both.0 (text_told v w both.1)

-- ---- a title

-- what may follow the id of a section: nothing, or two colons first
abbrev pub Tail : List ℕ → Type 0
Tail [] = Unit {0}
Tail (b ∷ []) = ⊥
Tail (b ∷ c ∷ bs) = (b ≡ 58) × (c ≡ 58)

-- only a blank is written with a colon first
no_colon_first : (b : ℕ) (t u : List ℕ) → id_byte b ++ t ≡ 58 ∷ u → ⊥
no_colon_first b t u e = by (id_byte b) (first_of_byte b) (byte_colon b) e where
  by : (bs : List ℕ) → (c : ℕ) × (cs : List ℕ) × (bs ≡ c ∷ cs) → NoColon bs → bs ++ t ≡ 58 ∷ u → ⊥
  by [] (c, cs, is) none e = cc
  by (d ∷ ds) (c, cs, is) none e = let colon : d ≡ 58 = cc in none.0 colon

-- a byte of a title is a blank, or stands in an id as in a word
blank_or_not : (b : ℕ) → ((b ≡ 32) × (title_byte b ≡ 58 ∷ [])) ⊎ ((b == 32) ≡ false) × (title_byte b ≡ id_byte b)
blank_or_not b = by (b == 32) refl where
  by : (t : Bool) → (b == 32) ≡ t → ((b ≡ 32) × ((if t then 58 ∷ [] else id_byte b) ≡ 58 ∷ [])) ⊎ ((b == 32) ≡ false) × ((if t then 58 ∷ [] else id_byte b) ≡ id_byte b)
  by true h = inl (eqb-true b 32 h, refl)
  by false h = inr (h, refl)

title_told : (x y : ℕ) (t u : List ℕ) → title_byte x ++ t ≡ title_byte y ++ u → (x ≡ y) × (t ≡ u)
title_told x y t u e = elim (blank_or_not x) [
  | inl p ↦ elim (blank_or_not y) [
    | inl q ↦ let rest : 58 ∷ t ≡ 58 ∷ u = sym (ap (λ bs. bs ++ t) p.1) ∙ e ∙ ap (λ bs. bs ++ u) q.1 in let tails : t ≡ u = cc in (p.0 ∙ sym q.0, tails)
    | inr q ↦ absurd (no_colon_first y u t (sym (ap (λ bs. bs ++ u) q.1) ∙ sym e ∙ ap (λ bs. bs ++ t) p.1))
  ]
  | inr p ↦ elim (blank_or_not y) [
    | inl q ↦ absurd (no_colon_first x t u (sym (ap (λ bs. bs ++ t) p.1) ∙ e ∙ ap (λ bs. bs ++ u) q.1))
    | inr q ↦ byte_told x y t u (sym (ap (λ bs. bs ++ t) p.1) ∙ e ∙ ap (λ bs. bs ++ u) q.1)
  ]
]

parted_tail : (x : ℕ) (a : List ℕ) → is_parted (x ∷ a) ≡ true → is_parted a ≡ true
parted_tail x [] h = refl
parted_tail x (c ∷ a) h = (and_parts (not (x == 32 && c == 32)) (is_parted (c ∷ a)) h).1

no_blank_last : (y : ℕ) → y ≡ 32 → is_parted (y ∷ []) ≡ true → ⊥
no_blank_last y e h = false≢true (sym (ap (λ b. is_parted (b ∷ [])) e) ∙ h)

no_two_blanks : (y z : ℕ) (b : List ℕ) → y ≡ 32 → z ≡ 32 → is_parted (y ∷ z ∷ b) ≡ true → ⊥
no_two_blanks y z b e f h = false≢true (sym (ap₂ (λ c d. is_parted (c ∷ d ∷ b)) e f) ∙ h)

-- nothing or two colons follow one title: so the other title ends there too
no_more : (y : ℕ) (b t u : List ℕ) → is_parted (y ∷ b) ≡ true → Tail t → t ≡ title_byte y ++ (chapter_id b ++ u) → ⊥
no_more y b [] u h k e = elim (blank_or_not y) [
  | inl p ↦ let none : [] ≡ 58 ∷ (chapter_id b ++ u) = e ∙ ap (λ bs. bs ++ (chapter_id b ++ u)) p.1 in cc
  | inr p ↦ not_nothing y (chapter_id b ++ u) (e ∙ ap (λ bs. bs ++ (chapter_id b ++ u)) p.1)
]
no_more y b (c ∷ []) u h k e = k
no_more y b (c ∷ d ∷ ts) u h k e = elim (blank_or_not y) [
  | inr p ↦ no_colon_first y (chapter_id b ++ u) (d ∷ ts) (sym (ap (λ bs. bs ++ (chapter_id b ++ u)) p.1) ∙ sym e ∙ ap (λ a. a ∷ d ∷ ts) k.0)
  | inl p ↦ let rest : d ∷ ts ≡ chapter_id b ++ u = (let both : c ∷ (d ∷ ts) ≡ 58 ∷ (chapter_id b ++ u) = e ∙ ap (λ bs. bs ++ (chapter_id b ++ u)) p.1 in cc) in after_blank b p.0 h rest
] where
  after_blank : (b : List ℕ) → y ≡ 32 → is_parted (y ∷ b) ≡ true → d ∷ ts ≡ chapter_id b ++ u → ⊥
  after_blank [] f h r = no_blank_last y f h
  after_blank (z ∷ b) f h r = elim (blank_or_not z) [
    | inl q ↦ no_two_blanks y z b f q.0 h
    | inr q ↦ no_colon_first z (chapter_id b ++ u) ts (sym (append_assoc (id_byte z) (chapter_id b) u) ∙ sym (ap (λ bs. (bs ++ chapter_id b) ++ u) q.1) ∙ sym r ∙ ap (λ a. a ∷ ts) k.1)
  ]

-- the title, and what follows the section's id
pub title_of_id : (a b t u : List ℕ) → is_parted a ≡ true → is_parted b ≡ true → Tail t → Tail u → chapter_id a ++ t ≡ chapter_id b ++ u → (a ≡ b) × (t ≡ u)
title_of_id [] [] t u pa pb ht hu e = (refl, e)
title_of_id [] (y ∷ b) t u pa pb ht hu e = absurd (no_more y b t u pb ht (e ∙ append_assoc (title_byte y) (chapter_id b) u))
title_of_id (x ∷ a) [] t u pa pb ht hu e = absurd (no_more x a u t pa hu (sym e ∙ append_assoc (title_byte x) (chapter_id a) t))
title_of_id (x ∷ a) (y ∷ b) t u pa pb ht hu e =
    let first = title_told x y (chapter_id a ++ t) (chapter_id b ++ u) (sym (append_assoc (title_byte x) (chapter_id a) t) ∙ e ∙ append_assoc (title_byte y) (chapter_id b) u) in
    let rest = title_of_id a b t u (parted_tail x a pa) (parted_tail y b pb) ht hu first.1 in
    (ap₂ (λ c cs. c ∷ cs) first.0 rest.0, rest.1)

-- ---- an entry or a heading

-- the number where it is not the first
abbrev pub number : (earlier : ℕ) → List ℕ
number earlier = if earlier == 0 then [] else codes "::" ++ decimal (earlier + 1)

-- after the section's id
abbrev pub word_tail : (word : List ℕ) → (earlier : ℕ) → List ℕ
word_tail word earlier = 58 ∷ 58 ∷ (id_text word ++ number earlier)

abbrev pub heading_tail : (text : List ℕ) → (earlier : ℕ) → List ℕ
heading_tail text earlier = 58 ∷ 58 ∷ 58 ∷ (id_text text ++ number earlier)

pub entry_numbered : (title word : List ℕ) (earlier : ℕ) → numbered (entry_id title word) earlier ≡ chapter_id title ++ word_tail word earlier
entry_numbered title word earlier = grind (arith, decimal, append-nil, append_assoc)

pub heading_numbered : (title text : List ℕ) (earlier : ℕ) → numbered (heading_id title text) earlier ≡ chapter_id title ++ heading_tail text earlier
heading_numbered title text earlier = grind (arith, decimal, append-nil, append_assoc)

colon_number : (k : ℕ) → Colon (number k)
colon_number k = grind (arith, decimal)

number_told : (j k : ℕ) → j + 1 < 2 ^ 64 → k + 1 < 2 ^ 64 → number j ≡ number k → j ≡ k
number_told j k hj hk = grind (arith, decimal, eqb-true, decimal_injective)

text_and_number : (v w : List ℕ) (j k : ℕ) → j + 1 < 2 ^ 64 → k + 1 < 2 ^ 64 → id_text v ++ number j ≡ id_text w ++ number k → (v ≡ w) × (j ≡ k)
text_and_number v w j k hj hk e =
    let parts = split (id_text v) (id_text w) (number j) (number k) (text_colon v) (text_colon w) (colon_number j) (colon_number k) e in
    (text_told v w parts.0, number_told j k hj hk parts.1)

pub word_told : (v w : List ℕ) (j k : ℕ) → j + 1 < 2 ^ 64 → k + 1 < 2 ^ 64 → word_tail v j ≡ word_tail w k → (v ≡ w) × (j ≡ k)
word_told v w j k hj hk e = let inner : id_text v ++ number j ≡ id_text w ++ number k = cc in text_and_number v w j k hj hk inner

pub heading_told : (v w : List ℕ) (j k : ℕ) → j + 1 < 2 ^ 64 → k + 1 < 2 ^ 64 → heading_tail v j ≡ heading_tail w k → (v ≡ w) × (j ≡ k)
heading_told v w j k hj hk e = let inner : id_text v ++ number j ≡ id_text w ++ number k = cc in text_and_number v w j k hj hk inner

-- no number begins with a colon
no_digit : (n : ℕ) (ds : List ℕ) → n < 2 ^ 64 → decimal n ≡ 58 ∷ ds → ⊥
no_digit n ds h e = by (decimal n) (decimal_is_IsNumeral n h).0 e where
  by : (bs : List ℕ) → IsNumeral 10 bs → bs ≡ 58 ∷ ds → ⊥
  by [] k f = cc
  by (b ∷ bs) k f = let colon : b ≡ 58 = cc in let small : digit_value 58 < 10 = subst (λ c. digit_value c < 10) colon k.1.0 in absurd (omega arith)

one_colon : (k : ℕ) (t : List ℕ) (j : ℕ) → k + 1 < 2 ^ 64 → number k ≡ 58 ∷ (id_text t ++ number j) → ⊥
one_colon k t j hk e = by (k == 0) e where
  second : (b : Bool) → 58 ∷ decimal (k + 1) ≡ (if b then [] else 58 ∷ 58 ∷ decimal (j + 1)) → ⊥
  second true f = cc
  second false f = let inner : decimal (k + 1) ≡ 58 ∷ decimal (j + 1) = cc in no_digit (k + 1) (decimal (j + 1)) hk inner

  by : (b : Bool) → (if b then [] else 58 ∷ 58 ∷ decimal (k + 1)) ≡ 58 ∷ (id_text t ++ number j) → ⊥
  by true f = cc
  by false f =
      let inner : 58 ∷ decimal (k + 1) ≡ id_text t ++ number j = cc in
      let parts = split [] (id_text t) (58 ∷ decimal (k + 1)) (number j) tt (text_colon t) refl (colon_number j) inner in
      second (j == 0) parts.1

-- an entry has no id of a heading
pub word_or_heading : (w t : List ℕ) (k j : ℕ) → k + 1 < 2 ^ 64 → word_tail w k ≡ heading_tail t j → ⊥
word_or_heading w t k j hk e =
    let inner : id_text w ++ number k ≡ 58 ∷ (id_text t ++ number j) = cc in
    let parts = split (id_text w) [] (number k) (58 ∷ (id_text t ++ number j)) (text_colon w) tt (colon_number k) refl inner in
    one_colon k t j hk parts.1
