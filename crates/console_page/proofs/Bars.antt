-- Items that are cut at bars.
use Rattle.std.proofs.Common.{◌≡◌, ℕ, ◌+◌, ◌-◌, ◌<◌, ◌≤◌, ◌==◌, Bool, true, false, List, [], ◌∷◌, ◌++◌, length, get_or, append_assoc, arith, take, drop, length-drop, sym, ap, ◌∙◌, inl, inr}
use Rattle.std.specs.Prelude.{codes, if◌then◌else◌}
use Rattle.std.proofs.lemmas.Bool.{and_parts}
use Rattle.std.proofs.lemmas.Bool.Decides.{eqb_tells}
use Rattle.std.proofs.lemmas.List.{get_or-drop, take_more}
use Rattle.console_page.specs.Usage.{cut_bars, cut_byte, depth_after, is_bar_end, is_cut}
use Rattle.console_page.proofs.Lists.{drop_next}

run_more : (text : List ℕ) (start at : ℕ) → start ≤ at → at < length text → take (at + 1 - start) (drop start text) ≡ take (at - start) (drop start text) ++ get_or text at 0 ∷ []
run_more text start at le h = grind (arith, length-drop start text, take_more (drop start text) (at - start) 0, get_or-drop start text (at - start) 0)

cut_next : (least depth : ℕ) (after : Bool) (item : List ℕ) (at : ℕ) → at < length item → cut_bars least depth after (drop at item) ≡ cut_byte least depth after (get_or item at 0) ∷ cut_bars least (depth_after depth (get_or item at 0)) (get_or item at 0 == 124) (drop (at + 1) item)
cut_next least depth after item at h = ap (cut_bars least depth after) (drop_next item at 0 h)

-- a step over a byte that stays
pub kept_next : (least depth : ℕ) (after : Bool) (item out whole : List ℕ) (start at : ℕ) → start ≤ at → at < length item → is_cut least depth after (get_or item at 0) ≡ false → out ++ (take (at - start) (drop start item) ++ cut_bars least depth after (drop at item)) ≡ whole → out ++ (take (at + 1 - start) (drop start item) ++ cut_bars least (depth_after depth (get_or item at 0)) (get_or item at 0 == 124) (drop (at + 1) item)) ≡ whole
kept_next least depth after item out whole start at le h stays w =
    let b : ℕ = get_or item at 0 in
    let rest : List ℕ = cut_bars least (depth_after depth b) (b == 124) (drop (at + 1) item) in
    let run : List ℕ = take (at - start) (drop start item) in
    let byte : cut_byte least depth after b ≡ b = ap (λ t. if t then 10 else b) stays in
    ap (λ x. out ++ (x ++ rest)) (run_more item start at le h)
    ∙ ap (λ x. out ++ x) (append_assoc run (b ∷ []) rest)
    ∙ ap (λ x. out ++ (run ++ x)) (sym (cut_next least depth after item at h ∙ ap (λ x. x ∷ rest) byte))
    ∙ w

-- a step over one that is a newline now
pub cut_there : (least depth : ℕ) (after : Bool) (item out mid new whole : List ℕ) (start at : ℕ) → at < length item → is_cut least depth after (get_or item at 0) ≡ true → mid ≡ out ++ take (at - start) (drop start item) → new ≡ mid ++ codes "\n" → out ++ (take (at - start) (drop start item) ++ cut_bars least depth after (drop at item)) ≡ whole → new ++ (take (at + 1 - (at + 1)) (drop (at + 1) item) ++ cut_bars least (depth_after depth (get_or item at 0)) (get_or item at 0 == 124) (drop (at + 1) item)) ≡ whole
cut_there least depth after item out mid new whole start at h goes m n w =
    let b : ℕ = get_or item at 0 in
    let rest : List ℕ = cut_bars least (depth_after depth b) (b == 124) (drop (at + 1) item) in
    let run : List ℕ = take (at - start) (drop start item) in
    let byte : cut_byte least depth after b ≡ 10 = ap (λ t. if t then 10 else b) goes in
    let none : at + 1 - (at + 1) ≡ 0 = omega arith in
    ap (λ k. new ++ (take k (drop (at + 1) item) ++ rest)) none
    ∙ ap (λ x. x ++ rest) (n ∙ ap (λ x. x ++ codes "\n") m)
    ∙ append_assoc (out ++ run) (codes "\n") rest
    ∙ append_assoc out run (10 ∷ rest)
    ∙ ap (λ x. out ++ (run ++ x)) (sym (cut_next least depth after item at h ∙ ap (λ x. x ∷ rest) byte))
    ∙ w

-- what is cut is a blank
pub cut_blank : (least depth : ℕ) (after : Bool) (b : ℕ) → is_cut least depth after b ≡ true → b < 128
cut_blank least depth after b h =
    let whole = and_parts (is_bar_end after b) (depth == least) h in
    let blank = and_parts after (b == 32) whole.0 in
    elim (eqb_tells b 32) [ inl p ↦ omega (arith, p.1) | inr p ↦ absurd (let e = p.0 in cc) ]
