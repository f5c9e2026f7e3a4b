-- The stretches of a text, one after another.
use Rattle.std.proofs.lemmas.Grind.{common_steps}
use Rattle.std.proofs.Common.{◌≡◌, ℕ, suc, zero, ◌+◌, ◌-◌, ◌<◌, ◌≤◌, Bool, true, false, ◌&&◌, ◌||◌, cond, not, List, [], ◌∷◌, ◌++◌, length, drop, take, get_or, refl, sym, ap, ◌∙◌, append_assoc, arith, one-add, add-one, length-append, true≢false}
use Rattle.std.specs.List.{count_by, prefix_len}
use Rattle.std.specs.Str.{IsCharBoundary, IsUtf8}
use Rattle.std.proofs.lemmas.List.Sums.{sum_by-append, prefix_len-le-length, prefix_len_passes, prefix_len_stops}
use Rattle.std.proofs.lemmas.Bool.{cases_lt}
use Rattle.std.proofs.lemmas.Bool.Decides.{nat_tests}
use Rattle.std.proofs.lemmas.Str.{IsCharBoundary-start, IsCharBoundary-end, IsCharBoundary-before_ascii, IsCharBoundary-after_ascii}
use Rattle.page_model.specs.Content.{Line, Piece}
use Rattle.description_usage.specs.Syntax.{is_name, is_negated, is_outside, is_same, is_word_byte, names_after, onto_stretches, pieces_after, stretch_pieces, stretches, word_piece, word_pieces}
use Rattle.description_usage.specs.Syntax.Steps.{is_in}
use Rattle.description_usage.specs.declared.syntax.Class.{Class}

-- ---- where a stretch ends

after_ascii_run : (p : ℕ → Bool) (bs : List ℕ) (n : ℕ) → prefix_len p bs ≡ n → IsUtf8 bs → ((c : ℕ) → p c ≡ true → c < 128) → IsCharBoundary bs n
after_ascii_run p bs zero e utf8 ascii = IsCharBoundary-start bs utf8
after_ascii_run p bs (suc k) e utf8 ascii = grind (arith, add-one, IsCharBoundary-after_ascii bs k utf8, prefix_len-le-length p bs, prefix_len_passes p bs k 0 (omega arith))

before_ascii : (p : ℕ → Bool) (bs : List ℕ) → ((c : ℕ) → p c ≡ false → c < 128) → IsCharBoundary bs (prefix_len p bs)
before_ascii p bs ascii = grind (arith, cases_lt, IsCharBoundary-before_ascii, prefix_len_stops, prefix_len-le-length, IsCharBoundary-end)

ascii : (k : Class) (c : ℕ) → is_in k c ≡ true → c < 128
ascii k c h2 = grind (arith, nat_tests)

not_false : (b : Bool) → not b ≡ false → b ≡ true
not_false b h1 = grind (arith, true≢false)

pub stretch_ends : (k : Class) (t : Bool) (bs : List ℕ) → IsUtf8 bs → IsCharBoundary bs (prefix_len (λ byte. is_same t (is_in k byte)) bs)
stretch_ends k true bs utf8 = after_ascii_run (is_in k) bs _ refl utf8 (ascii k)
stretch_ends k false bs utf8 = before_ascii (λ byte. not (is_in k byte)) bs (λ c h. ascii k c (not_false (is_in k c) h))

-- ---- the first stretch

same_self : (t : Bool) → is_same t t ≡ true
same_self t = grind arith

same_is : (t u : Bool) → is_same t u ≡ true → t ≡ u
same_is t u h2 = grind (arith, true≢false)

module _ (test : ℕ → Bool) where
  -- how many bytes at the front answer the test in this way
  abbrev alike : Bool → List ℕ → ℕ
  alike t bs = prefix_len (λ c. is_same t (test c)) bs

  joined : (b : ℕ) (bs : List ℕ) → stretches test (b ∷ bs) ≡ (b ∷ take (alike (test b) bs) bs) ∷ stretches test (drop (alike (test b) bs) bs)
  joined b [] = refl
  joined b (c ∷ cs) = by (joined c cs) (is_same (test b) (test c)) refl where
    by : stretches test (c ∷ cs) ≡ (c ∷ take (alike (test c) cs) cs) ∷ stretches test (drop (alike (test c) cs) cs) → (t : Bool) → is_same (test b) (test c) ≡ t
        → onto_stretches test b (stretches test (c ∷ cs)) ≡ (b ∷ take (alike (test b) (c ∷ cs)) (c ∷ cs)) ∷ stretches test (drop (alike (test b) (c ∷ cs)) (c ∷ cs))
    by below true e =
        let m : ℕ = alike (test c) cs in
        let rest : List (List ℕ) = stretches test (drop m cs) in
        let same : alike (test b) (c ∷ cs) ≡ suc m = ap (λ t. cond t (1 + alike (test b) cs) 0) e ∙ one-add (alike (test b) cs) ∙ ap (λ t. suc (alike t cs)) (same_is (test b) (test c) e) in
        ap (onto_stretches test b) below ∙ ap (λ t. cond t ((b ∷ c ∷ take m cs) ∷ rest) ((b ∷ []) ∷ (c ∷ take m cs) ∷ rest)) e
        ∙ sym (ap (λ n. (b ∷ take n (c ∷ cs)) ∷ stretches test (drop n (c ∷ cs))) same)
    by below false e =
        let m : ℕ = alike (test c) cs in
        let rest : List (List ℕ) = stretches test (drop m cs) in
        let none : alike (test b) (c ∷ cs) ≡ 0 = ap (λ t. cond t (1 + alike (test b) cs) 0) e in
        ap (onto_stretches test b) below ∙ ap (λ t. cond t ((b ∷ c ∷ take m cs) ∷ rest) ((b ∷ []) ∷ (c ∷ take m cs) ∷ rest)) e
        ∙ ap (λ ss. (b ∷ []) ∷ ss) (sym below)
        ∙ sym (ap (λ n. (b ∷ take n (c ∷ cs)) ∷ stretches test (drop n (c ∷ cs))) none)

  front_alike : (b : ℕ) (bs : List ℕ) → alike (test b) (b ∷ bs) ≡ suc (alike (test b) bs)
  front_alike b bs = ap (λ t. cond t (1 + alike (test b) bs) 0) (same_self (test b)) ∙ one-add (alike (test b) bs)

  pub stretch_there : (bs : List ℕ) (b n : ℕ) → 0 < length bs → b ≡ get_or bs 0 0 → n ≡ alike (test b) bs → stretches test bs ≡ take n bs ∷ stretches test (drop n bs)
  stretch_there [] b n h at e = absurd (omega arith)
  stretch_there (c ∷ cs) b n h at e = grind (arith, front_alike, joined)

  pub some_there : (bs : List ℕ) (b n : ℕ) → 0 < length bs → b ≡ get_or bs 0 0 → n ≡ alike (test b) bs → 0 < n
  some_there [] b n h at e = absurd (omega arith)
  some_there (c ∷ cs) b n h at e = grind (arith, front_alike)

-- ---- what stands before the rest of a text

abbrev pub front_of : (text rest : List ℕ) → List ℕ
front_of text rest = take (length text - length rest) text

abbrev pub IsEnd : (text rest : List ℕ) → Type 0
IsEnd text rest = text ≡ front_of text rest ++ rest

front_is : (text front rest : List ℕ) → text ≡ front ++ rest → front_of text rest ≡ front
front_is text front rest e = grind (arith, common_steps, length-append front rest)

pub whole_end : (text : List ℕ) → IsEnd text text
whole_end text = let none : 0 ≡ length text - length text = omega arith in ap (λ n. take n text ++ text) none

pub front_whole : (text : List ℕ) → front_of text text ≡ []
front_whole text = let none : length text - length text ≡ 0 = omega arith in ap (λ n. take n text) none

pub end_shorter : (text rest : List ℕ) → IsEnd text rest → length rest ≤ length text
end_shorter text rest e = let long : length text ≡ length (front_of text rest) + length rest = ap length e ∙ length-append (front_of text rest) rest in omega arith

module _ (text rest stretch after : List ℕ) (is_end : IsEnd text rest) (cut : rest ≡ stretch ++ after) where
  joined_whole : text ≡ (front_of text rest ++ stretch) ++ after
  joined_whole = is_end ∙ ap (λ r. front_of text rest ++ r) cut ∙ sym (append_assoc (front_of text rest) stretch after)

  pub front_more : front_of text after ≡ front_of text rest ++ stretch
  front_more = front_is text (front_of text rest ++ stretch) after joined_whole

  pub end_more : IsEnd text after
  end_more = joined_whole ∙ ap (λ f. f ++ after) (sym front_more)

-- ---- one stretch appended to a line, and the rest after it

pub stretch_put : (line more whole : Line) (before after stretch : List ℕ) (ss ts : List (List ℕ)) → ss ≡ stretch ∷ ts → after ≡ before ++ stretch → more ≡ line ++ stretch_pieces before stretch → line ++ pieces_after before ss ≡ whole
    → more ++ pieces_after after ts ≡ whole
stretch_put line more whole before after stretch ss ts at follows put so_far = grind (arith, append_assoc)

pub word_put : (line more whole : Line) (piece : Piece) (text word after : List ℕ) → stretches is_word_byte text ≡ word ∷ stretches is_word_byte after → piece ≡ word_piece word → more ≡ line ++ piece ∷ [] → line ++ word_pieces text ≡ whole → more ++ word_pieces after ≡ whole
word_put line more whole piece text word after at is put so_far = grind (arith, append_assoc)

-- ---- counts

pub count_more : (p : ℕ → Bool) (xs ys : List ℕ) → count_by p (xs ++ ys) ≡ count_by p xs + count_by p ys
count_more p xs ys = sum_by-append (λ x. cond (p x) 1 0) xs ys

-- ---- the first name

pub name_passed : (before after stretch : List ℕ) (ss ts : List (List ℕ)) (outside : Bool) → ss ≡ stretch ∷ ts → after ≡ before ++ stretch → outside ≡ is_outside before
    → (outside && (is_name before stretch || is_negated before stretch)) ≡ false → names_after after ts ≡ names_after before ss
name_passed before after stretch ss ts outside at more out none = grind arith
