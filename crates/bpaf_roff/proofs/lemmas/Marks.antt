-- What a byte with a mark is written as, and the marks of the first bytes of a text.
use Rattle.std.proofs.Common.{◌≡◌, ℕ, ◌+◌, ◌-◌, ◌<◌, ◌==◌, Bool, true, false, List, [], ◌∷◌, ◌++◌, inl, inr, ◌∙◌, map, take, length, get_or, ap, sym, arith, if◌then◌else◌}
use Rattle.std.specs.Prelude.{slice_index, slice_set}
use Rattle.std.proofs.lemmas.Bool.{cases_lt}
use Rattle.std.proofs.lemmas.List.{take_more, get_or-set_same, get_or-set_other}
use Rattle.bpaf_roff.specs.Escaping.{Byte, newline, is_line_start, byte_text, text_after}
use Rattle.bpaf_roff.specs.Steps.Output.{IsText, IsMark, AreMarks, mark, written}
use Rattle.bpaf_roff.specs.declared.escape.Apostrophes.{Apostrophes}
use Rattle.bpaf_roff.specs.declared.escape.Escape.{Escape}
use Rattle.bpaf_roff.specs.declared.escape.Escape.TheVariants.{Special}
use Rattle.bpaf_roff.proofs.lemmas.LineStarts.{newline_ends, nothing_ends}
use Rattle.bpaf_roff.proofs.lemmas.Texts.{line_start_by_last}

-- a byte that is not written in a way of its own
marked_special : (q : Apostrophes) (before : List ℕ) (prev s : ℕ) → (is_line_start before ≡ true → (prev == newline) ≡ true) → mark prev s < 3
    → byte_text q before Special s ≡ (if mark prev s == 2 then 92 ∷ s ∷ [] else s ∷ [])
marked_special q before prev s h k = grind arith

-- a line starts only after a newline
line_after : (q : Apostrophes) (label : Escape) → IsText label → (x : Bool) (bytes : List ℕ) (i j : ℕ) → i ≡ j + 1 → j < length bytes
    → is_line_start (written x ++ text_after q (written x) (map (Byte label) (take i bytes))) ≡ true → (slice_index bytes j == newline) ≡ true
line_after q label is x bytes i j e lt h = by is
  where
    last : take i bytes ≡ take j bytes ++ get_or bytes j 0 ∷ []
    last = ap (λ k. take k bytes) e ∙ take_more bytes j 0 lt

    by : IsText label → (slice_index bytes j == newline) ≡ true
    by (inl special) =
        line_start_by_last x label (take i bytes) (take j bytes) (get_or bytes j 0) last (get_or bytes j 0 == newline) (newline_ends label (get_or bytes j 0) (inr (inl special))) q ∙ h
    by (inr stripped) =
        let no = line_start_by_last x label (take i bytes) (take j bytes) (get_or bytes j 0) last false (nothing_ends label (get_or bytes j 0) (inr stripped)) q ∙ h in absurd cc

pub marked_text : (q : Apostrophes) (label : Escape) → IsText label → (x : Bool) (bytes : List ℕ) (i m s : ℕ) → i < length bytes → IsMark bytes i m → m < 3
    → byte_text q (written x ++ text_after q (written x) (map (Byte label) (take i bytes))) label (slice_index bytes i)
    ≡ byte_text q (written x ++ text_after q (written x) (map (Byte label) (take i bytes))) Special s
    → ((before : ℕ) → mark before (slice_index bytes i) ≡ mark before s)
    → byte_text q (written x ++ text_after q (written x) (map (Byte label) (take i bytes))) label (slice_index bytes i) ≡ (if m == 2 then 92 ∷ s ∷ [] else s ∷ [])
marked_text q label is x bytes i m s lt (inl odd) few shown same = absurd (omega (arith, odd, few))
marked_text q label is x bytes i m s lt (inr right) few shown same =
    let prev = slice_index bytes (i - 1) in
    let known : m ≡ mark prev s = right.1 ∙ same prev in
    let after : i ≡ i - 1 + 1 = omega (arith, right.0) in
    let inside : i - 1 < length bytes = omega (arith, right.0, lt) in
    shown
    ∙ marked_special q (written x ++ text_after q (written x) (map (Byte label) (take i bytes))) prev s (line_after q label is x bytes i (i - 1) after inside) (omega (arith, known, few))
    ∙ ap (λ n. if n == 2 then 92 ∷ s ∷ [] else s ∷ []) (sym known)

-- one more byte is marked
pub marks_more : (bytes marks : List ℕ) (i m : ℕ) → 0 < i → i < length marks → AreMarks bytes i marks → m ≡ mark (slice_index bytes (i - 1)) (slice_index bytes i)
    → AreMarks bytes (i + 1) (slice_set marks i m)
marks_more bytes marks i m some lt all e j l = grind (arith, cases_lt j i, get_or-set_same, get_or-set_other, all j)
