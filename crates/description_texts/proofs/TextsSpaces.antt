-- White space of a line.
use Rattle.std.proofs.Common.{◌≡◌, ℕ, suc, ◌+◌, ◌-◌, ◌<◌, ◌≤◌, Bool, true, false, cond, List, [], ◌∷◌, ◌++◌, length, get_or, take, drop, replicate, arith, refl, ap, sym, ◌∙◌, subst, append_assoc, append-nil, length-drop}
use Rattle.std.specs.Prelude.{◌==◌, ◌||◌}
use Rattle.std.specs.List.{list_any, prefix_len}
use Rattle.std.proofs.lemmas.Bool.Decides.{nat_tests}
use Rattle.std.proofs.lemmas.List.{drop_all, drop_more, get_or-drop, take_more, take_rest}
use Rattle.description_texts.specs.TextsInside.{is_white, squeezed, squeezed_byte}

or_false : (a b : Bool) → (a || b) ≡ false → (a ≡ false) × (b ≡ false)
or_false true b h = absurd cc
or_false false b h = (refl, h)

-- ---- a front without tabs is of blanks

front_byte : (b : ℕ) → is_white b ≡ true → (b == 9) ≡ false → b ≡ 32
front_byte b h g = grind (arith, nat_tests)

abbrev pub has_tab : List ℕ → Bool
has_tab text = list_any (λ b. b == 9) text

-- what holds of a front of that many bytes
abbrev pub IsBlankFront : List ℕ → ℕ → Type 0
IsBlankFront line n = has_tab (take n line) ≡ false → replicate n 32 ++ drop n line ≡ line

front_white : (n b : ℕ) (line : List ℕ) → is_white b ≡ true → IsBlankFront line n → IsBlankFront (b ∷ line) (suc n)
front_white n b line e more h =
    let parts = or_false (b == 9) (has_tab (take n line)) h in
    ap (λ x. x ∷ (replicate n 32 ++ drop n line)) (sym (front_byte b e parts.0)) ∙ ap (λ xs. b ∷ xs) (more parts.1)

front_len : (white : Bool) (n : ℕ) → cond white (1 + n) 0 ≡ cond white (suc n) 0
front_len true n = omega arith
front_len false n = refl

front_if : (white : Bool) (b : ℕ) (line : List ℕ) → is_white b ≡ white → IsBlankFront line (prefix_len is_white line) → IsBlankFront (b ∷ line) (cond white (suc (prefix_len is_white line)) 0)
front_if true b line e more = front_white (prefix_len is_white line) b line e more
front_if false b line e more = λ h. refl

pub blank_front : (line : List ℕ) → IsBlankFront line (prefix_len is_white line)
blank_front [] = λ h. refl
blank_front (b ∷ line) = subst (IsBlankFront (b ∷ line)) (sym (front_len (is_white b) (prefix_len is_white line))) (front_if (is_white b) b line refl (blank_front line))

-- ---- what stands for white space

-- the next byte of what follows a place
run_more : (text : List ℕ) (start at : ℕ) → start ≤ at → at < length text → take (at + 1 - start) (drop start text) ≡ take (at - start) (drop start text) ++ get_or text at 0 ∷ []
run_more text start at le h = grind (arith, length-drop start text, take_more (drop start text) (at - start) 0, get_or-drop start text (at - start) 0)

squeezed_at : (line : List ℕ) (at : ℕ) → at < length line → squeezed (drop at line) ≡ squeezed_byte (get_or line at 0) (drop (at + 1) line) ++ squeezed (drop (at + 1) line)
squeezed_at line at h = ap squeezed (drop_more line at 0 h)

-- a step over a byte that stands for itself
pub plain_next : (line out : List ℕ) (start at : ℕ) → start ≤ at → at < length line → squeezed_byte (get_or line at 0) (drop (at + 1) line) ≡ get_or line at 0 ∷ []
    → out ++ (take (at - start) (drop start line) ++ squeezed (drop at line)) ≡ squeezed line → out ++ (take (at + 1 - start) (drop start line) ++ squeezed (drop (at + 1) line)) ≡ squeezed line
plain_next line out start at le h e w =
    let rest : List ℕ = squeezed (drop (at + 1) line) in
    let run : List ℕ = take (at - start) (drop start line) in
    ap (λ xs. out ++ (xs ++ rest)) (run_more line start at le h)
    ∙ ap (λ xs. out ++ xs) (append_assoc run (get_or line at 0 ∷ []) rest ∙ ap (λ xs. run ++ (xs ++ rest)) (sym e) ∙ ap (λ xs. run ++ xs) (sym (squeezed_at line at h)))
    ∙ w

-- a step over one that is replaced
pub named_next : (line out more new text : List ℕ) (start at : ℕ) → at < length line → squeezed_byte (get_or line at 0) (drop (at + 1) line) ≡ text → more ≡ out ++ take (at - start) (drop start line) → new ≡ more ++ text
    → out ++ (take (at - start) (drop start line) ++ squeezed (drop at line)) ≡ squeezed line → new ++ (take (at + 1 - (at + 1)) (drop (at + 1) line) ++ squeezed (drop (at + 1) line)) ≡ squeezed line
named_next line out more new text start at h e m n w =
    let rest : List ℕ = squeezed (drop (at + 1) line) in
    let run : List ℕ = take (at - start) (drop start line) in
    let none : at + 1 - (at + 1) ≡ 0 = omega arith in
    ap (λ k. new ++ (take k (drop (at + 1) line) ++ rest)) none
    ∙ ap (λ xs. xs ++ rest) (n ∙ ap (λ xs. xs ++ text) m)
    ∙ append_assoc (out ++ run) text rest
    ∙ append_assoc out run (text ++ rest)
    ∙ ap (λ xs. out ++ (run ++ xs)) (ap (λ xs. xs ++ rest) (sym e) ∙ sym (squeezed_at line at h))
    ∙ w

pub all_squeezed : (line out : List ℕ) (start at : ℕ) → at ≡ length line → out ++ (take (at - start) (drop start line) ++ squeezed (drop at line)) ≡ squeezed line → out ++ drop start line ≡ squeezed line
all_squeezed line out start at e w = grind (arith, drop_all, take_rest, append-nil)
