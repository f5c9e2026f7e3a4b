-- Lines that are written in parts: what stands at the front, what follows that, and the end.
use Rattle.std.proofs.Common.{◌≡◌, ◌<◌, ◌≤◌, ◌+◌, ◌-◌, ℕ, zero, suc, arith, Bool, true, false, ◌||◌, List, [], ◌∷◌, ◌++◌, length, get_or, take, drop, refl, sym, ap, ◌∙◌, inl, inr, subst, append_assoc}
use Rattle.std.specs.Prelude.{◌==◌, nat_lt, if◌then◌else◌, Result, Ok, Err, OnOk, is_ok}
use Rattle.std.specs.Str.{IsCharBoundary, IsUtf8}
use Rattle.std.proofs.lemmas.Bool.{eqb-true, lt-ltb, ne_eqb}
use Rattle.std.proofs.Math.Bool.{or-true, or-false}
use Rattle.std.proofs.lemmas.Str.{IsCharBoundary-start, IsCharBoundary-after_ascii, IsCharBoundary-before_ascii}
use Rattle.markdown_page.specs.Bytes.{is_digit}
use Rattle.markdown_page.specs.Exact.{framed, guarded, kept_blank, line_text, mark_if, wants_mark, with_end}
use Rattle.markdown_page.specs.Reader.{begins_in_blank, ends_in_blank, last_or}
use Rattle.markdown_page.specs.Steps.{digits_of, front_mark}
use Rattle.markdown_page.proofs.Bools.{bool_cases, digit_range}
use Rattle.markdown_page.proofs.Loops.{last_read}

-- ---- the end

pub ends_read : (line : List ℕ) → 0 < length line → ends_in_blank line ≡ (get_or line (length line - 1) 0 == 32)
ends_read [] h = absurd (omega arith)
ends_read (b ∷ line) h = let e : suc (length line) - 1 ≡ length line = omega arith in rw e (ap (λ x. x == 32) (last_read b line))

pub end_none : (line : List ℕ) → ends_in_blank line ≡ false → with_end line ≡ line
end_none [] h = refl
end_none (b ∷ []) h = rw h refl
end_none (b ∷ c ∷ line) h = ap (λ x. b ∷ x) (end_none (c ∷ line) h)

end_taken : (b : ℕ) (line : List ℕ) → (last_or b line == 32) ≡ true → with_end (b ∷ line) ≡ take (length line) (b ∷ line) ++ kept_blank
end_taken b [] h = rw h refl
end_taken b (c ∷ line) h = ap (λ x. b ∷ x) (end_taken c line h)

pub end_some : (line : List ℕ) → ends_in_blank line ≡ true → with_end line ≡ take (length line - 1) line ++ kept_blank
end_some [] h = absurd cc
end_some (b ∷ line) h = let e : suc (length line) - 1 ≡ length line = omega arith in rw e (end_taken b line h)

pub end_boundary : (line : List ℕ) → ends_in_blank line ≡ true → IsCharBoundary line (length line - 1)
end_boundary [] h = absurd cc
end_boundary (b ∷ line) h =
    let some : 0 < length (b ∷ line) = omega arith in
    let is : get_or (b ∷ line) (length (b ∷ line) - 1) 0 ≡ 32 = eqb-true (get_or (b ∷ line) (length (b ∷ line) - 1) 0) 32 (sym (ends_read (b ∷ line) some) ∙ h) in
    IsCharBoundary-before_ascii (b ∷ line) (length (b ∷ line) - 1) (omega arith) (omega arith)

-- ---- a blank at the front

pub blank_boundary : (line : List ℕ) → IsUtf8 line → begins_in_blank line ≡ true → IsCharBoundary line 1
blank_boundary [] u h = absurd cc
blank_boundary (b ∷ line) u h = let is : b ≡ 32 = eqb-true b 32 h in IsCharBoundary-after_ascii (b ∷ line) 0 u (omega arith) (omega arith)

pub line_none : (line : List ℕ) → (length line == 0) ≡ true → line_text line ≡ kept_blank
line_none [] h = refl
line_none (b ∷ line) h = absurd (let n : (suc (length line) == 0) ≡ false = ne_eqb (suc (length line)) 0 (λ e. absurd (omega arith)) in cc)

pub line_blank : (line : List ℕ) → begins_in_blank line ≡ true → line_text line ≡ kept_blank ++ with_end (drop 1 line)
line_blank [] h = absurd cc
line_blank (b ∷ line) h = rw h refl

pub line_other : (line : List ℕ) → (length line == 0) ≡ false → begins_in_blank line ≡ false → line_text line ≡ guarded false line
line_other [] n h = absurd cc
line_other (b ∷ line) n h = ap (λ (x : Bool). if x then kept_blank ++ with_end line else guarded false (b ∷ line)) h

pub framed_none : (line : List ℕ) → (length line == 0) ≡ true → framed line ≡ kept_blank
framed_none [] h = refl
framed_none (b ∷ line) h = absurd (let n : (suc (length line) == 0) ≡ false = ne_eqb (suc (length line)) 0 (λ e. absurd (omega arith)) in cc)

pub framed_blank : (line : List ℕ) → begins_in_blank line ≡ true → framed line ≡ kept_blank ++ with_end (drop 1 line)
framed_blank [] h = absurd cc
framed_blank (b ∷ line) h = rw h refl

pub framed_other : (line : List ℕ) → (length line == 0) ≡ false → begins_in_blank line ≡ false → framed line ≡ with_end line
framed_other [] n h = absurd cc
framed_other (b ∷ line) n h = rw h refl

-- ---- digits at the front

digits_few : (line : List ℕ) → digits_of line ≤ length line
digits_few [] = omega arith
digits_few (b ∷ line) = elim (bool_cases (is_digit b)) [ inl e ↦ rw e (let r = digits_few line in omega arith) | inr e ↦ rw e (omega arith) ]

digits_small : (line : List ℕ) (i : ℕ) → i < digits_of line → get_or line i 0 < 128
digits_small [] i h = absurd (omega arith)
digits_small (b ∷ line) zero h = elim (bool_cases (is_digit b)) [
  | inl e ↦ let r = digit_range b e in let high : b ≤ 57 = r.1 in omega arith
  | inr e ↦ absurd (let none : 0 < 0 = rw e at h in omega arith)
]
digits_small (b ∷ line) (suc i) h = elim (bool_cases (is_digit b)) [
  | inl e ↦ let less : suc i < suc (digits_of line) = rw e at h in digits_small line i (omega arith)
  | inr e ↦ absurd (let none : suc i < 0 = rw e at h in omega arith)
]

boundary_at : (line : List ℕ) (n : ℕ) → IsUtf8 line → n ≤ length line → ((i : ℕ) → i < n → get_or line i 0 < 128) → IsCharBoundary line n
boundary_at line zero u h small = IsCharBoundary-start line u
boundary_at line (suc n) u h small =
    let e : n + 1 ≡ suc n = omega arith in
    subst (λ x. IsCharBoundary line x) e (IsCharBoundary-after_ascii line n u (omega arith) (small n (omega arith)))

pub digits_boundary : (line : List ℕ) → IsUtf8 line → IsCharBoundary line (digits_of line)
digits_boundary line u = boundary_at line (digits_of line) u (digits_few line) (digits_small line)

abbrev from_digits : Bool → ℕ → List ℕ → List ℕ
from_digits after n line = take n line ++ (front_mark after (drop n line) ++ with_end (drop n line))

guarded_from : (after : Bool) (line : List ℕ) → guarded after line ≡ from_digits (after || nat_lt 0 (digits_of line)) (digits_of line) line
guarded_from after [] = refl
guarded_from after (b ∷ line) = elim (bool_cases (is_digit b)) [
  | inl e ↦
      let some : nat_lt 0 (suc (digits_of line)) ≡ true = lt-ltb 0 (suc (digits_of line)) (omega arith) in
      let or_true : (x : Bool) → (x || true) ≡ true = or-true in
      rw (e, some, or_true after) (ap (λ x. b ∷ x) (guarded_from true line))
  | inr e ↦ rw e (ap (λ (x : Bool). mark_if (wants_mark x b) ++ with_end (b ∷ line)) (sym (or-false after)))
]

pub guarded_is : (line : List ℕ) → guarded false line ≡ take (digits_of line) line ++ (front_mark (nat_lt 0 (digits_of line)) (drop (digits_of line) line) ++ with_end (drop (digits_of line) line))
guarded_is line = guarded_from false line

-- ---- what is written in parts

-- two parts, the last of which may fail
pub appended : {T E : Type 0} (r : Result T E) (out a b mid new whole : List ℕ) → mid ≡ out ++ a → new ≡ (if is_ok r then mid ++ b else mid) → whole ≡ a ++ b → OnOk r (new ≡ out ++ whole)
appended (Ok v) out a b mid new whole m n w = n ∙ ap (λ x. x ++ b) m ∙ append_assoc out a b ∙ ap (λ x. out ++ x) (sym w)
appended (Err e) out a b mid new whole m n w = tt

pub in_three : (out a b c first mid new whole : List ℕ) → first ≡ out ++ a → mid ≡ first ++ b → new ≡ mid ++ c → whole ≡ a ++ (b ++ c) → new ≡ out ++ whole
in_three out a b c first mid new whole f m n w =
    n ∙ ap (λ x. x ++ c) (m ∙ ap (λ x. x ++ b) f) ∙ (let regroup : ((out ++ a) ++ b) ++ c ≡ out ++ (a ++ (b ++ c)) = simp append_assoc in regroup) ∙ ap (λ x. out ++ x) (sym w)

pub from_front : (n : ℕ) (line : List ℕ) → take (n - 0) line ≡ take n line
from_front n line = ap (λ x. take x line) (let e : n - 0 ≡ n = omega arith in e)

pub ruleset of_lines = (line_none, line_blank, line_other)

pub ruleset of_headings = (framed_none, framed_blank, framed_other)
