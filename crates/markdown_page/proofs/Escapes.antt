-- Steps of the loop that escapes a text.
use Rattle.std.proofs.Common.{◌≡◌, ◌<◌, ◌≤◌, ◌+◌, ◌-◌, ℕ, arith, Bool, true, false, not, ◌&&◌, ◌||◌, List, [], ◌∷◌, ◌++◌, length, get_or, take, drop, length-drop, refl, sym, ap, ◌∙◌, subst, inl, inr, append_assoc}
use Rattle.std.specs.Prelude.{◌==◌, codes}
use Rattle.std.proofs.lemmas.Bool.{eqb-true}
use Rattle.std.proofs.lemmas.List.{get_or-drop, take_all, take_more}
use Rattle.markdown_page.specs.Bytes.{is_word}
use Rattle.markdown_page.specs.Exact.{begins_in_word, escaped, is_end, is_escaped, is_sign, mark_if, may_refer, stand_for}
use Rattle.markdown_page.proofs.Bools.{or_cases, or_false}
use Rattle.markdown_page.proofs.Loops.{drop_next}

abbrev pub IsMark : ℕ → Type 0
IsMark b = (b < 128) × (stand_for b ≡ b ∷ [])

mark_at : (b c : ℕ) → IsMark c → (b == c) ≡ true → IsMark b
mark_at b c known e = subst IsMark (sym (eqb-true b c e)) known

sign_is : (b : ℕ) → is_sign b ≡ true → IsMark b
sign_is b h = elim (or_cases (b == 92 || b == 96 || b == 42 || b == 91 || b == 93) (b == 60) h) [
  | inr e ↦ mark_at b 60 (omega arith, refl) e
  | inl h1 ↦ elim (or_cases (b == 92 || b == 96 || b == 42 || b == 91) (b == 93) h1) [
    | inr e ↦ mark_at b 93 (omega arith, refl) e
    | inl h2 ↦ elim (or_cases (b == 92 || b == 96 || b == 42) (b == 91) h2) [
      | inr e ↦ mark_at b 91 (omega arith, refl) e
      | inl h3 ↦ elim (or_cases (b == 92 || b == 96) (b == 42) h3) [
        | inr e ↦ mark_at b 42 (omega arith, refl) e
        | inl h4 ↦ elim (or_cases (b == 92) (b == 96) h4) [ inl e ↦ mark_at b 92 (omega arith, refl) e | inr e ↦ mark_at b 96 (omega arith, refl) e ]
      ]
    ]
  ]
]

left : (x y : Bool) → (x && y) ≡ true → x ≡ true
left true y h = refl
left false y h = absurd cc

-- a byte after a backslash is a character, and no white space
pub marked_is : (heading after : Bool) (b : ℕ) (text : List ℕ) → is_escaped heading after b text ≡ true → IsMark b
marked_is heading after b text h = elim (or_cases (is_sign b || (b == 35 && heading) || (b == 95 && not (after && begins_in_word text)) || (b == 38 && may_refer text)) (b == 33 && is_end text) h) [
  | inr e ↦ mark_at b 33 (omega arith, refl) (left (b == 33) (is_end text) e)
  | inl h1 ↦ elim (or_cases (is_sign b || (b == 35 && heading) || (b == 95 && not (after && begins_in_word text))) (b == 38 && may_refer text) h1) [
    | inr e ↦ mark_at b 38 (omega arith, refl) (left (b == 38) (may_refer text) e)
    | inl h2 ↦ elim (or_cases (is_sign b || (b == 35 && heading)) (b == 95 && not (after && begins_in_word text)) h2) [
      | inr e ↦ mark_at b 95 (omega arith, refl) (left (b == 95) (not (after && begins_in_word text)) e)
      | inl h3 ↦ elim (or_cases (is_sign b) (b == 35 && heading) h3) [ inl e ↦ sign_is b e | inr e ↦ mark_at b 35 (omega arith, refl) (left (b == 35) heading e) ]
    ]
  ]
]

run_more : (text : List ℕ) (start at : ℕ) → start ≤ at → at < length text → take (at + 1 - start) (drop start text) ≡ take (at - start) (drop start text) ++ get_or text at 0 ∷ []
run_more text start at le h = grind (arith, length-drop start text, take_more (drop start text) (at - start) 0, get_or-drop start text (at - start) 0)

-- what is written, what follows it and what is written of the others
abbrev pub Written : Bool → List ℕ → List ℕ → List ℕ → ℕ → ℕ → Bool → Type 0
Written heading text first out start at after = out ++ (take (at - start) (drop start text) ++ escaped heading after (drop at text)) ≡ first ++ escaped heading false text

module _ (heading : Bool) (text first out : List ℕ) (start at : ℕ) (after : Bool) (le : start ≤ at) (h : at < length text) where
  abbrev byte : ℕ
  byte = get_or text at 0

  abbrev rest : List ℕ
  rest = drop (at + 1) text

  abbrev so_far : List ℕ
  so_far = take (at - start) (drop start text)

  next_is : Written heading text first out start at after → out ++ (so_far ++ (mark_if (is_escaped heading after byte rest) ++ (stand_for byte ++ escaped heading (is_word byte) rest))) ≡ first ++ escaped heading false text
  next_is w = ap (λ x. out ++ (so_far ++ escaped heading after x)) (sym (drop_next text at 0 h)) ∙ w

  pub bare_step : is_escaped heading after byte rest ≡ false → stand_for byte ≡ byte ∷ [] → Written heading text first out start at after → Written heading text first out start (at + 1) (is_word byte)
  bare_step e s w =
      ap (λ x. out ++ (x ++ escaped heading (is_word byte) rest)) (run_more text start at le h)
      ∙ ap (λ x. out ++ x) (append_assoc so_far (byte ∷ []) (escaped heading (is_word byte) rest))
      ∙ ap (λ x. out ++ (so_far ++ (mark_if false ++ (x ++ escaped heading (is_word byte) rest)))) (sym s)
      ∙ ap (λ x. out ++ (so_far ++ (mark_if x ++ (stand_for byte ++ escaped heading (is_word byte) rest)))) (sym e)
      ∙ next_is w

  take_one : take (at + 1 - at) (drop at text) ≡ byte ∷ []
  take_one = ap (λ n. take n (drop at text)) (let e : at + 1 - at ≡ 1 = omega arith in e) ∙ ap (take 1) (drop_next text at 0 h)

  pub marked_step : (mid new : List ℕ) → mid ≡ out ++ so_far → new ≡ mid ++ codes "\\" → is_escaped heading after byte rest ≡ true → stand_for byte ≡ byte ∷ [] → Written heading text first out start at after → Written heading text first new at (at + 1) (is_word byte)
  marked_step mid new m n e s w =
      ap (λ x. new ++ (x ++ escaped heading (is_word byte) rest)) take_one
      ∙ ap (λ x. x ++ (byte ∷ escaped heading (is_word byte) rest)) (n ∙ ap (λ x. x ++ codes "\\") m)
      ∙ (let regroup : ((out ++ so_far) ++ codes "\\") ++ (byte ∷ escaped heading (is_word byte) rest) ≡ out ++ (so_far ++ (codes "\\" ++ (byte ∷ escaped heading (is_word byte) rest))) = simp append_assoc in regroup)
      ∙ ap (λ x. out ++ (so_far ++ (mark_if true ++ (x ++ escaped heading (is_word byte) rest)))) (sym s)
      ∙ ap (λ x. out ++ (so_far ++ (mark_if x ++ (stand_for byte ++ escaped heading (is_word byte) rest)))) (sym e)
      ∙ next_is w

  take_none : take (at + 1 - (at + 1)) (drop (at + 1) text) ≡ []
  take_none = ap (λ n. take n (drop (at + 1) text)) (let e : at + 1 - (at + 1) ≡ 0 = omega arith in e)

  pub replaced_step : (mid new put : List ℕ) → mid ≡ out ++ so_far → new ≡ mid ++ put → is_escaped heading after byte rest ≡ false → stand_for byte ≡ put → Written heading text first out start at after → Written heading text first new (at + 1) (at + 1) (is_word byte)
  replaced_step mid new put m n e s w =
      ap (λ x. new ++ (x ++ escaped heading (is_word byte) rest)) take_none
      ∙ ap (λ x. x ++ escaped heading (is_word byte) rest) (n ∙ ap (λ x. x ++ put) m)
      ∙ (let regroup : ((out ++ so_far) ++ put) ++ escaped heading (is_word byte) rest ≡ out ++ (so_far ++ (put ++ escaped heading (is_word byte) rest)) = simp append_assoc in regroup)
      ∙ ap (λ x. out ++ (so_far ++ (mark_if false ++ (x ++ escaped heading (is_word byte) rest)))) (sym s)
      ∙ ap (λ x. out ++ (so_far ++ (mark_if x ++ (stand_for byte ++ escaped heading (is_word byte) rest)))) (sym e)
      ∙ next_is w

-- what the loop sees of the text
pub seen_escaped : (heading after : Bool) (bytes text : List ℕ) (at : ℕ) (test : Bool) → bytes ≡ text → test ≡ is_escaped heading after (get_or bytes at 0) (take (length bytes - (at + 1)) (drop (at + 1) bytes)) → is_escaped heading after (get_or text at 0) (drop (at + 1) text) ≡ test
seen_escaped heading after bytes text at test e t =
    let fits : length (drop (at + 1) bytes) ≤ length bytes - (at + 1) = let l = length-drop (at + 1) bytes in omega arith in
    sym (t ∙ ap (is_escaped heading after (get_or bytes at 0)) (take_all (length bytes - (at + 1)) (drop (at + 1) bytes) fits) ∙ ap (λ x. is_escaped heading after (get_or x at 0) (drop (at + 1) x)) e)

pub replaced_small : (b : ℕ) → (b == 9 || b == 10 || b == 123) ≡ true → b < 128
replaced_small b h = elim (or_cases (b == 9 || b == 10) (b == 123) h) [
  | inr e ↦ let is : b ≡ 123 = eqb-true b 123 e in omega arith
  | inl space ↦ elim (or_cases (b == 9) (b == 10) space) [ inl e ↦ let is : b ≡ 9 = eqb-true b 9 e in omega arith | inr e ↦ let is : b ≡ 10 = eqb-true b 10 e in omega arith ]
]

pub itself : (b : ℕ) → (b == 9 || b == 10 || b == 123) ≡ false → stand_for b ≡ b ∷ []
itself b h = let none = or_false (b == 9 || b == 10) (b == 123) h in rw (none.1, none.0) refl

pub space_stands : (b : ℕ) → (b == 9 || b == 10 || b == 123) ≡ true → (b == 123) ≡ false → stand_for b ≡ codes " "
space_stands b h n = elim (or_cases (b == 9 || b == 10) (b == 123) h) [ inl space ↦ rw (n, space) refl | inr brace ↦ absurd cc ]
