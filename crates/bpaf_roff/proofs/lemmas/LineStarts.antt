-- Where the output is at a line start.
use Rattle.std.specs.Prelude.{◌≡◌, ◌≢◌, ℕ, Bool, true, false, List, [], ◌∷◌, ◌++◌, ◌==◌, ◌||◌, ◌⊎◌, codes, if◌then◌else◌, refl}
use Rattle.std.proofs.Common.{inl, inr, ap, ◌∙◌, sym, append_assoc, arith, append-nil}
use Rattle.std.proofs.lemmas.Bool.Decides.{eqb_tells}
use Rattle.bpaf_roff.specs.Pieces.{Piece}
use Rattle.bpaf_roff.specs.Escaping.{newline, is_line_start, newline_as_blank, guard, special_text, spaces_text, apostrophe_text, byte_text, Sign, signs, signs_of, sign_text, text_after}
use Rattle.bpaf_roff.specs.Steps.Output.{written}
use Rattle.bpaf_roff.specs.declared.escape.Apostrophes.{Apostrophes}
use Rattle.bpaf_roff.specs.declared.escape.Apostrophes.TheVariants.{Handle, DontHandle}
use Rattle.bpaf_roff.specs.declared.escape.Escape.{Escape}
use Rattle.bpaf_roff.specs.declared.escape.Escape.TheVariants.{UnescapedAtNewline, Spaces, Special, SpecialNoNewline, Unescaped}
use Rattle.bpaf_roff.proofs.lemmas.EscapedText.{text_after-append}

-- only the byte written last counts
pub is_line_start-last : (before : List ℕ) (b : ℕ) → is_line_start (before ++ b ∷ []) ≡ (b == newline)
is_line_start-last (x ∷ y ∷ before) b = is_line_start-last (y ∷ before) b
is_line_start-last z b = grind arith

is_line_start-end : (before t : List ℕ) (b : ℕ) → is_line_start (before ++ (t ++ b ∷ [])) ≡ (b == newline)
is_line_start-end before t b = rw (← append_assoc before t (b ∷ [])) (is_line_start-last (before ++ t) b)

special_end : (q : Apostrophes) (before g : List ℕ) (b : ℕ) → is_line_start (before ++ (g ++ special_text q b)) ≡ (b == newline)
special_end q before g b = by (b == 92 || b == 45) (eqb_tells b 39)
  where
    quoted : (p : Apostrophes) → is_line_start (before ++ (g ++ apostrophe_text p)) ≡ false
    quoted Handle = rw (← append_assoc g (codes "\\*(A") (codes "q")) (is_line_start-end before (g ++ codes "\\*(A") 113)
    quoted DontHandle = is_line_start-end before g 39

    by : (x : Bool) → ((b == 39) ≡ true) × (b ≡ 39) ⊎ ((b == 39) ≡ false) × (b ≢ 39) → is_line_start (before ++ (g ++ (if x then 92 ∷ b ∷ [] else if (b == 39) then apostrophe_text q else b ∷ []))) ≡ (b == newline)
    by true y = rw (← append_assoc g (92 ∷ []) (b ∷ [])) (is_line_start-end before (g ++ 92 ∷ []) b)
    by false (inl y) = rw y.1 (quoted q)
    by false (inr y) = rw y.0 (is_line_start-end before g b)

blank_end : (q : Apostrophes) (before g : List ℕ) (b : ℕ) → is_line_start (before ++ (g ++ special_text q (newline_as_blank b))) ≡ false
blank_end q before g b = by (eqb_tells b 10)
  where
    by : ((b == 10) ≡ true) × (b ≡ 10) ⊎ ((b == 10) ≡ false) × (b ≢ 10) → is_line_start (before ++ (g ++ special_text q (newline_as_blank b))) ≡ false
    by (inl y) = rw y.1 (is_line_start-end before g 32)
    by (inr y) = rw y.0 (special_end q before g b ∙ y.0)

spaces_end : (before : List ℕ) (b : ℕ) → is_line_start (before ++ spaces_text b) ≡ false
spaces_end before b = grind (arith, eqb_tells b 32, eqb_tells b 10, is_line_start-end before (92 ∷ []) 32, is_line_start-end before (92 ∷ []) 92, is_line_start-last before b)

-- a newline under these labels ends a line
pub newline_ends : (label : Escape) (b : ℕ) → label ≡ UnescapedAtNewline ⊎ (label ≡ Special ⊎ label ≡ Unescaped) → (q : Apostrophes) (before : List ℕ) → (b == newline) ≡ is_line_start (before ++ byte_text q before label b)
newline_ends label b h2 h3 h4 = grind (arith, is_line_start-last, special_end)

-- no byte under these labels does
pub nothing_ends : (label : Escape) (b : ℕ) → label ≡ Spaces ⊎ label ≡ SpecialNoNewline → (q : Apostrophes) (before : List ℕ) → false ≡ is_line_start (before ++ byte_text q before label b)
nothing_ends label b (inl e) q before = rw e (sym (spaces_end before b))
nothing_ends label b (inr e) q before = rw e (sym (blank_end q before (guard before b) b))

-- what comes next depends on what was written only by whether it ends a line
is_line_start-written : (x : Bool) → is_line_start (written x) ≡ x
is_line_start-written x = grind arith

pub byte_text-written : (q : Apostrophes) (before : List ℕ) (label : Escape) (b : ℕ) (x : Bool) → x ≡ is_line_start before → byte_text q before label b ≡ byte_text q (written x) label b
byte_text-written q before label b x h5 = grind (arith, is_line_start-written)

pub sign_text-written : (q : Apostrophes) (before : List ℕ) (s : Sign) (x : Bool) → x ≡ is_line_start before → sign_text q before s ≡ sign_text q (written x) s
sign_text-written q before s x h4 = grind (arith, is_line_start-written, byte_text-written)

-- nothing more, or a last byte
is_line_start-append : (before other t : List ℕ) → is_line_start before ≡ is_line_start other → is_line_start (before ++ t) ≡ is_line_start (other ++ t)
is_line_start-append before other [] e = rw (append-nil before, append-nil other) e
is_line_start-append before other (b ∷ t) e = last b t before other
  where
    last : (c : ℕ) (u p r : List ℕ) → is_line_start (p ++ c ∷ u) ≡ is_line_start (r ++ c ∷ u)
    last c [] p r = is_line_start-last p c ∙ sym (is_line_start-last r c)
    last c (d ∷ u) p r = rw (← append_assoc p (c ∷ []) (d ∷ u), ← append_assoc r (c ∷ []) (d ∷ u)) (last d u (p ++ c ∷ []) (r ++ c ∷ []))

pub is_line_start-after : (before t : List ℕ) (x : Bool) → x ≡ is_line_start before → is_line_start (before ++ t) ≡ is_line_start (written x ++ t)
is_line_start-after before t x e = is_line_start-append before (written x) t (sym e ∙ sym (is_line_start-written x))

pub text_after-written : (q : Apostrophes) (xs : List Sign) (before : List ℕ) (x : Bool) → x ≡ is_line_start before → text_after q before xs ≡ text_after q (written x) xs
text_after-written q [] before x e = refl
text_after-written q (s ∷ xs) before x e = grind (arith, text_after-written q xs, sign_text-written, is_line_start-after)

pub signs-push : (ps : List (Piece Escape)) (p : Piece Escape) → signs (ps ++ p ∷ []) ≡ signs ps ++ signs_of p
signs-push [] p = append-nil (signs_of p)
signs-push (p ∷ ps) r = rw (signs-push ps r, append_assoc (signs_of p)) refl

-- one more sign
pub text_after-push : (q : Apostrophes) (before : List ℕ) (xs : List Sign) (s : Sign) → text_after q before (xs ++ s ∷ []) ≡ text_after q before xs ++ sign_text q (before ++ text_after q before xs) s
text_after-push q before xs s = text_after-append q before xs (s ∷ []) ∙ ap (λ t. text_after q before xs ++ t) (append-nil (sign_text q (before ++ text_after q before xs) s))

pub ruleset line_start_lemmas = (is_line_start-last, newline_ends, nothing_ends)
