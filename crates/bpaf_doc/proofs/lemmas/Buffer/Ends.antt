-- What the running ends give: the parts, their texts, and what is added after them.
use Rattle.std.proofs.lemmas.Grind.{common_steps}
use Rattle.std.specs.Prelude.{if◌then◌else◌, ◌++◌, ◌+◌, ◌-◌, ◌<◌, ◌^◌, ◌∷◌, ◌≡◌, ◌≤◌}
use Rattle.bpaf_doc.proofs.lemmas.Buffer.Words.{ℕ, zero, suc, Bool, true, false, List, [], All, map, length, get_or, take, drop, sym, refl, ap, arith, length-append, length-drop, take_all, append_assoc, append-nil, take-append-drop, subst, add-zero, Option, Some, None, option_to_list, slice_get, IsUtf8, take-append-le, drop-append-le, drop-drop, drop_all, All-nil, All-cons, IsUtf8-append, IsUtf8-nil, IsCharBoundary-from_take, Style, Kind, PartEnd, AreEnds, CanMove, IsEnd, end_before, end_then_text, is_text_of, moved, part_with, parts_from, text_end, with_last_end, with_text_end, Part, Text, HasUtf8Texts, document_bytes, part_bytes, part_then_text, with_text}
use Rattle.std.proofs.Math.Seq.{take-add}
use Rattle.std.specs.Iterator.{YieldsFirstBy}
use Rattle.std.specs.Option.{option_map}
use Rattle.bpaf_doc.specs.declared.buffer.Part as handed
use Rattle.bpaf_doc.specs.Buffer.View.{part_of}
use Rattle.std.proofs.lemmas.Option.{slice_get_past}

pub length-parts_from : (start : ℕ) (es : List PartEnd) (rest : List ℕ) → length (parts_from start es rest) ≡ length es
length-parts_from start [] rest = refl
length-parts_from start (e ∷ es) rest = ap suc (length-parts_from e.end es (drop (e.end - start) rest))

-- the bytes after the first end
left_over : (start : ℕ) (e : PartEnd) (rest : List ℕ) → IsEnd start e rest → e.end + length (drop (e.end - start) rest) ≡ start + length rest
left_over start e rest is = omega (arith, length-drop (e.end - start) rest, is.not_below, is.within)

-- ---- the texts

-- the texts joined are the payload
pub document_bytes-parts_from : (start : ℕ) (es : List PartEnd) (rest : List ℕ) → AreEnds start es rest → document_bytes (parts_from start es rest) ≡ rest
document_bytes-parts_from start [] rest are = sym are
document_bytes-parts_from start (e ∷ es) rest are = grind (arith, document_bytes-parts_from e.end es (drop (e.end - start) rest), take-append-drop)

pub HasUtf8Texts-parts_from : (start : ℕ) (es : List PartEnd) (rest : List ℕ) → AreEnds start es rest → HasUtf8Texts (parts_from start es rest)
HasUtf8Texts-parts_from start [] rest are = All-nil (λ part. IsUtf8 (part_bytes part))
HasUtf8Texts-parts_from start (e ∷ es) rest are =
    let n = e.end - start in
    All-cons (λ part. IsUtf8 (part_bytes part)) (part_with e.kind (take n rest)) (parts_from e.end es (drop n rest))
    (subst IsUtf8 (sym (grind (arith, are.0.taken))) are.0.utf8)
    (HasUtf8Texts-parts_from e.end es (drop n rest) are.1)

-- what is cut is a text
pub IsUtf8-AreEnds : (start : ℕ) (es : List PartEnd) (rest : List ℕ) → AreEnds start es rest → IsUtf8 rest
IsUtf8-AreEnds start [] rest are = subst IsUtf8 (sym are) IsUtf8-nil
IsUtf8-AreEnds start (e ∷ es) rest are =
    let n = e.end - start in
    subst IsUtf8 (take-append-drop n rest) (IsUtf8-append (take n rest) (drop n rest) are.0.utf8 (IsUtf8-AreEnds e.end es (drop n rest) are.1))

-- ---- more ends, and more of the payload

pub parts_from-append : (start : ℕ) (es fs : List PartEnd) (rest more : List ℕ) → AreEnds start es rest
    → parts_from start (es ++ fs) (rest ++ more) ≡ parts_from start es rest ++ parts_from (start + length rest) fs more
parts_from-append start [] fs s more are = grind (arith, add-zero)
parts_from-append start (e ∷ es) fs rest more are = grind (arith, parts_from-append e.end es fs (drop (e.end - start) rest) more, take-append-le, drop-append-le, left_over)

pub AreEnds-append : (start : ℕ) (es fs : List PartEnd) (rest more : List ℕ) → AreEnds start es rest → AreEnds (start + length rest) fs more → AreEnds start (es ++ fs) (rest ++ more)
AreEnds-append start [] fs s more are also = grind (arith, add-zero)
AreEnds-append start (e ∷ es) fs rest more are also = grind (arith, AreEnds-append e.end es fs (drop (e.end - start) rest) more, length-append, take-append-le, drop-append-le, left_over)

-- ---- a part without bytes

module _ (start : ℕ) (es : List PartEnd) (rest : List ℕ) (k : Kind) where
  -- after the other ends
  abbrev empty_end : PartEnd
  empty_end = record { kind = k; end = start + length rest }

  pub parts_from-push_empty : AreEnds start es rest → parts_from start (es ++ empty_end ∷ []) rest ≡ parts_from start es rest ++ part_with k [] ∷ []
  parts_from-push_empty are = grind (arith, append-nil rest, parts_from-append start es (empty_end ∷ []) rest, take_all)

  pub AreEnds-push_empty : AreEnds start es rest → AreEnds start (es ++ empty_end ∷ []) rest
  AreEnds-push_empty are =
      subst (λ bytes. AreEnds start (es ++ empty_end ∷ []) bytes) (append-nil rest)
      (AreEnds-append start es (empty_end ∷ []) rest [] are (grind arith, (drop_all (start + length rest - (start + length rest)) [] (omega arith))))

-- ---- parts of another payload

module _ (from to : ℕ) where
  pub parts_from-moved : (start : ℕ) (es : List PartEnd) (rest : List ℕ) → from ≤ start → AreEnds start es rest
      → parts_from (start - from + to) (map (moved from to) es) rest ≡ parts_from start es rest
  parts_from-moved start [] rest le are = refl
  parts_from-moved start (e ∷ es) rest le are = grind (arith, parts_from-moved e.end es (drop (e.end - start) rest))

  pub AreEnds-moved : (start : ℕ) (es : List PartEnd) (rest : List ℕ) → from ≤ start → AreEnds start es rest → AreEnds (start - from + to) (map (moved from to) es) rest
  AreEnds-moved start [] rest le are = are
  AreEnds-moved start (e ∷ es) rest le are = grind (arith, AreEnds-moved e.end es (drop (e.end - start) rest))

  pub CanMove-AreEnds : (start : ℕ) (es : List PartEnd) (rest : List ℕ) → from ≤ start → AreEnds start es rest → start - from + length rest + to < 2 ^ 64 → All (CanMove from to) es
  CanMove-AreEnds start [] rest le are fits = All-nil (CanMove from to)
  CanMove-AreEnds start (e ∷ es) rest le are fits = grind (arith, CanMove-AreEnds e.end es (drop (e.end - start) rest), left_over)

-- ---- a text after the others

-- where a last text of its style is taken off, the text takes its place
pub with_text_end-push : (es : List PartEnd) (e : PartEnd) (style : Style) (end : ℕ) → with_text_end (es ++ e ∷ []) style end ≡ es ++ end_then_text e style end
with_text_end-push (f ∷ g ∷ es) e style end = ap (λ fs. f ∷ fs) (with_text_end-push (g ∷ es) e style end)
with_text_end-push x e style end = grind arith

-- the last end was taken off, and put back unless it is a text of that style
pub with_text_end-kept : (es fs : List PartEnd) (o : Option PartEnd) (e : PartEnd) (style : Style) (end : ℕ) → es ≡ fs ++ option_to_list o → o ≡ Some e → is_text_of e.kind style ≡ false
    → with_text_end es style end ≡ (fs ++ e ∷ []) ++ text_end style end ∷ []
with_text_end-kept es fs o e style end was is other = grind (arith, with_text_end-push, append_assoc)

pub with_text_end-replaced : (es fs : List PartEnd) (o : Option PartEnd) (e : PartEnd) (style : Style) (end : ℕ) → es ≡ fs ++ option_to_list o → o ≡ Some e → is_text_of e.kind style ≡ true
    → with_text_end es style end ≡ fs ++ text_end style end ∷ []
with_text_end-replaced es fs o e style end was is same = grind (arith, with_text_end-push)

pub with_text_end-none : (es fs : List PartEnd) (o : Option PartEnd) (style : Style) (end : ℕ) → es ≡ fs ++ option_to_list o → o ≡ None → length fs ≤ 0
    → with_text_end es style end ≡ fs ++ text_end style end ∷ []
with_text_end-none es [] o style end was is none = rw (was, is) refl
with_text_end-none es (f ∷ fs) o style end was is none = absurd (omega (arith, none))

module _ (style : Style) (text : List ℕ) where
  -- a text alone
  pub text_alone : (start end : ℕ) → end ≡ start + length text → parts_from start (text_end style end ∷ []) text ≡ Text text style ∷ []
  text_alone start end is = ap (λ bytes. Text bytes style ∷ []) (take_all (end - start) text (omega arith))

  pub alone_are : IsUtf8 text → (start end : ℕ) → end ≡ start + length text → AreEnds start (text_end style end ∷ []) text
  alone_are utf8 start end is = grind (arith, take_all, drop_all)

  -- after a part that is the whole of the rest
  module _ (start end last : ℕ) (rest : List ℕ) (is : end ≡ start + (length rest + length text)) where
    joined_parts : (b : Bool) (other : Style) → AreEnds start (text_end other last ∷ []) rest
        → parts_from start (if b then text_end style end ∷ [] else text_end other last ∷ text_end style end ∷ []) (rest ++ text)
        ≡ (if b then Text (take (last - start) rest ++ text) style ∷ [] else Text (take (last - start) rest) other ∷ Text text style ∷ [])
    joined_parts true other are = grind (arith, take_all (last - start) rest, length-drop (last - start) rest, take_all (end - start) (rest ++ text), length-append rest text)
    joined_parts false other are = grind (arith, parts_from-append start (text_end other last ∷ []) (text_end style end ∷ []) rest text are, text_alone (start + length rest) end (omega arith))

    joined_are : IsUtf8 text → (b : Bool) (other : Style) → AreEnds start (text_end other last ∷ []) rest
        → AreEnds start (if b then text_end style end ∷ [] else text_end other last ∷ text_end style end ∷ []) (rest ++ text)
    joined_are utf8 true other are =
        let bytes = rest ++ text in
        let count : length bytes ≡ length rest + length text = length-append rest text in
        let front : take (last - start) rest ≡ rest = take_all (last - start) rest (omega (arith, length-drop (last - start) rest, ap length are.1)) in
        let before : IsUtf8 rest = rw front at are.0.utf8 in (
          record {
            not_below = omega arith;
            within = omega arith;
            utf8 = rw (take_all (end - start) bytes (omega arith)) (IsUtf8-append rest text before utf8);
            taken = tt;
          },
          drop_all (end - start) bytes (omega arith),
        )
    joined_are utf8 false other are = AreEnds-append start (text_end other last ∷ []) (text_end style end ∷ []) rest text are (alone_are utf8 (start + length rest) end (omega arith))

    -- after a last part
    text_after : (k : Kind) → AreEnds start (record { kind = k; end = last } ∷ []) rest
        → parts_from start (end_then_text (record { kind = k; end = last }) style end) (rest ++ text) ≡ part_then_text (part_with k (take (last - start) rest)) text style
    text_after k h1 = grind (arith, joined_parts, parts_from-append, text_alone)

    after_are : IsUtf8 text → (k : Kind) → AreEnds start (record { kind = k; end = last } ∷ []) rest
        → AreEnds start (end_then_text (record { kind = k; end = last }) style end) (rest ++ text)
    after_are h1 k h2 = grind (arith, joined_are, alone_are)

  pub parts_from-with_text_end : (start end : ℕ) (es : List PartEnd) (rest : List ℕ) → end ≡ start + (length rest + length text) → AreEnds start es rest
      → parts_from start (with_text_end es style end) (rest ++ text) ≡ with_text (parts_from start es rest) text style
  parts_from-with_text_end start end [] s is are = grind (arith, text_alone)
  parts_from-with_text_end start end (e ∷ []) rest is are = text_after start end e.end rest is e.kind are
  parts_from-with_text_end start end (e ∷ f ∷ es) rest is are = grind (arith, parts_from-with_text_end e.end end (f ∷ es), take-append-le, drop-append-le, left_over)

  pub AreEnds-with_text_end : IsUtf8 text → (start end : ℕ) (es : List PartEnd) (rest : List ℕ) → end ≡ start + (length rest + length text) → AreEnds start es rest
      → AreEnds start (with_text_end es style end) (rest ++ text)
  AreEnds-with_text_end utf8 start end [] [] is are = alone_are utf8 start end (omega arith)
  AreEnds-with_text_end utf8 start end [] (x ∷ rest) is are = cc
  AreEnds-with_text_end utf8 start end (e ∷ []) rest is are = after_are start end e.end rest is utf8 e.kind are
  AreEnds-with_text_end utf8 start end (e ∷ f ∷ es) rest is are = grind (arith, AreEnds-with_text_end utf8 e.end end (f ∷ es) (drop (e.end - start) rest), length-append, take-append-le, drop-append-le, left_over)

-- ---- the parts after a place

pub end_before-bounds : (start : ℕ) (es : List PartEnd) (rest : List ℕ) (i : ℕ) → AreEnds start es rest → (start ≤ end_before start es i) × (end_before start es i ≤ start + length rest)
end_before-bounds start es rest zero are = (omega arith, omega arith)
end_before-bounds start [] rest (suc i) are = (omega arith, omega arith)
end_before-bounds start (e ∷ es) rest (suc i) are = grind (arith, end_before-bounds e.end es (drop (e.end - start) rest) i, left_over)

-- the bytes before it are a text
pub IsUtf8-before : (start : ℕ) (es : List PartEnd) (rest : List ℕ) (i : ℕ) → AreEnds start es rest → IsUtf8 (take (end_before start es i - start) rest)
IsUtf8-before start es rest zero are = let none : start - start ≡ 0 = omega arith in rw none IsUtf8-nil
IsUtf8-before start [] rest (suc i) are = let none : start - start ≡ 0 = omega arith in rw none IsUtf8-nil
IsUtf8-before start (e ∷ es) rest (suc i) are =
    let n = e.end - start in
    let m = end_before e.end es i - e.end in
    let after = end_before-bounds e.end es (drop n rest) i are.1 in
    let both : end_before e.end es i - start ≡ n + m = omega (arith, are.0.not_below, after.0) in
    rw (both, take-add n m rest) (IsUtf8-append (take n rest) (take m (drop n rest)) are.0.utf8 (IsUtf8-before e.end es (drop n rest) i are.1))

pub parts_from-drop : (start : ℕ) (es : List PartEnd) (rest : List ℕ) (i : ℕ) → AreEnds start es rest
    → parts_from (end_before start es i) (drop i es) (drop (end_before start es i - start) rest) ≡ drop i (parts_from start es rest)
parts_from-drop start es rest zero are = let none : start - start ≡ 0 = omega arith in rw none refl
parts_from-drop start [] rest (suc i) are = refl
parts_from-drop start (e ∷ es) rest (suc i) are = grind (arith, common_steps, parts_from-drop e.end es, end_before-bounds, drop-drop)

pub AreEnds-drop : (start : ℕ) (es : List PartEnd) (rest : List ℕ) (i : ℕ) → i ≤ length es → AreEnds start es rest
    → AreEnds (end_before start es i) (drop i es) (drop (end_before start es i - start) rest)
AreEnds-drop start es rest zero le are = let none : start - start ≡ 0 = omega arith in rw none are
AreEnds-drop start [] rest (suc i) le are = absurd (omega (arith, le))
AreEnds-drop start (e ∷ es) rest (suc i) le are =
    let n = e.end - start in
    let m = end_before e.end es i - e.end in
    let after = end_before-bounds e.end es (drop n rest) i are.1 in
    let both : end_before e.end es i - start ≡ n + m = omega (arith, are.0.not_below, after.0) in
    rw (both, ← drop-drop m n rest) (AreEnds-drop e.end es (drop n rest) i (omega (arith, le)) are.1)

-- the end before a place, as it is read from the ends
pub end_before-read : (start : ℕ) (es : List PartEnd) (i : ℕ) (d : PartEnd) → i < length es → end_before start es (suc i) ≡ (get_or es i d).end
end_before-read start (e ∷ es) (suc i) d lt = end_before-read e.end es i d (omega (arith, lt))
end_before-read start x y d lt = grind arith

-- what `next` gives of a list without its first parts
pub slice_get-next : (s t ps : List Part) (r : Option handed.Part) (i : ℕ) → s ≡ drop i ps → i < length ps → YieldsFirstBy part_of (λ left. left) s r t
    → option_map part_of r ≡ slice_get ps i
slice_get-next s t (p ∷ ps) r (suc i) is lt yields = slice_get-next s t ps r i is (omega (arith, lt)) yields
slice_get-next s t x y z is lt yields = grind arith

-- ---- the last end moved

with_last_end-push : (es : List PartEnd) (e : PartEnd) (end : ℕ) → with_last_end (es ++ e ∷ []) end ≡ es ++ record { kind = e.kind; end = end } ∷ []
with_last_end-push (f ∷ g ∷ es) e end = ap (λ fs. f ∷ fs) (with_last_end-push (g ∷ es) e end)
with_last_end-push x e end = grind arith

-- the last end was taken off, and one of its kind is put back
pub with_last_end-popped : (es fs : List PartEnd) (o : Option PartEnd) (e : PartEnd) (end : ℕ) → es ≡ fs ++ option_to_list o → o ≡ Some e
    → with_last_end es end ≡ fs ++ record { kind = e.kind; end = end } ∷ []
with_last_end-popped es fs o e end was is = rw (was, is) (with_last_end-push fs e end)

pub ruleset part_count = (length-parts_from)

pub ruleset popped_end = (with_last_end-popped)

pub ruleset text_ends = (with_text_end-kept, with_text_end-none, with_text_end-replaced)

pub ruleset read_end = (end_before-read)

pub ruleset next_slice = (slice_get_past, slice_get-next)

pub ruleset parts_cut = (IsCharBoundary-from_take, IsUtf8-AreEnds)
