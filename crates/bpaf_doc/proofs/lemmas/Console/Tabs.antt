-- One walk over the parts gives the tab stop.
use Rattle.std.specs.Prelude.{if◌then◌else◌, ◌&&◌, ◌++◌, ◌+◌, ◌∷◌, ◌≡◌}
use Rattle.bpaf_doc.proofs.lemmas.Console.Words.{common_steps, list_any, before_first, after_last, enumerate_from, sym, ◌∙◌, arith, append_assoc, length-append, take_at, ℕ, min, max, Bool, true, false, not, List, [], length, refl, map, filter, take, fold, sum_by, nat_le, list_any-append, sum_by-cons, take_while-cons, nat_tests, and-false, and-true, or-false, zero-add, Part, Text, Start, End, columns, text_columns, term_length, drop-append-le, drop_all, reverse-append, is_start_of, is_end_of, is_term}
use Rattle.bpaf_doc.specs.declared.buffer.Block.TheVariants as blocks

-- ---- the walk

abbrev pub sat : ℕ → ℕ
sat n = min n 18446744073709551615

-- the wider of two terms, where the second counts only up to 24
abbrev pub wider : ℕ → ℕ → ℕ
wider widest count = if nat_le count 24 then max widest count else widest

-- the widest of the terms that follow, by the widest so far, whether a term has started, and its columns so far
abbrev pub widest_from : ℕ → Bool → ℕ → List Part → ℕ
widest_from widest in_term count [] = widest
widest_from widest in_term count (Text bytes style ∷ rest) = widest_from widest in_term (if in_term then sat (count + columns bytes) else count) rest
widest_from widest in_term count (Start blocks.ItemTerm ∷ rest) = widest_from widest true 0 rest
widest_from widest in_term count (Start b ∷ rest) = widest_from widest in_term count rest
widest_from widest in_term count (End blocks.ItemTerm ∷ rest) = widest_from (wider widest count) false count rest
widest_from widest in_term count (End b ∷ rest) = widest_from widest in_term count rest

-- ---- one part more

-- the columns of the texts before the first end
abbrev first_columns : List Part → ℕ
first_columns parts = sum_by text_columns (before_first (is_end_of is_term) parts)

first_columns-cons : (part : Part) (parts : List Part) → first_columns (part ∷ parts) ≡ (if is_end_of is_term part then 0 else text_columns part + first_columns parts)
first_columns-cons part parts = grind (arith, take_while-cons, sum_by-cons text_columns part (before_first (is_end_of is_term) parts))

first_columns-push : (parts : List Part) (part : Part) → first_columns (parts ++ part ∷ []) ≡ first_columns parts + (if list_any (is_end_of is_term) parts then 0 else text_columns part)
first_columns-push [] part = (grind (arith, zero-add)) ∙ sym (zero-add (text_columns part))
first_columns-push (p ∷ ps) part = grind (arith, first_columns-push ps part, first_columns-cons)

-- a term has started and not ended
abbrev is_in_term : List Part → Bool
is_in_term before = list_any (is_start_of is_term) before && not (list_any (is_end_of is_term) (after_last (is_start_of is_term) before))

is_in_term-push : (before : List Part) (part : Part) → is_in_term (before ++ part ∷ []) ≡ (if is_start_of is_term part then true else is_in_term before && not (is_end_of is_term part))
is_in_term-push before part = grind (arith, list_any-append, or-false, reverse-append, drop_all, drop-append-le, length-append)

term_length-push : (before : List Part) (part : Part)
    → term_length (before ++ part ∷ []) ≡ (if is_start_of is_term part then 0 else term_length before + (if is_in_term before then text_columns part else 0))
term_length-push before part = grind (arith, list_any-append, or-false, reverse-append, drop_all, drop-append-le, length-append, first_columns-push)

-- ---- all parts

-- the lengths at the ends among the parts from place k on
abbrev lengths_from : List Part → ℕ → List Part → List ℕ
lengths_from document k parts = map (λ (k, part). term_length (take k document)) (filter (λ (k, part). is_end_of is_term part) (enumerate_from k parts))

-- the widest of these that counts
abbrev widest_of : List Part → List Part → List Part → ℕ → ℕ
widest_of document before rest widest = fold max widest (filter (λ n. nat_le n 24) (lengths_from document (length before) rest))

passed : (document before rest : List Part) (part : Part) (widest : ℕ) (in_term : Bool) (count : ℕ)
    → in_term ≡ is_in_term (before ++ part ∷ []) → count ≡ sat (term_length (before ++ part ∷ []))
    → document ≡ before ++ part ∷ rest
    → (document ≡ (before ++ part ∷ []) ++ rest → widest_from widest (is_in_term (before ++ part ∷ [])) (sat (term_length (before ++ part ∷ []))) rest
    ≡ widest_of document (before ++ part ∷ []) rest widest)
    → widest_from widest in_term count rest ≡ fold max widest (filter (λ n. nat_le n 24) (lengths_from document (length before + 1) rest))
passed document before rest part widest in_term count e f same more = grind (arith, append_assoc, length-append, nat_tests)

-- a mark that is no start and no end of a term
quiet : (document before rest : List Part) (part : Part) (widest : ℕ) → is_start_of is_term part ≡ false → is_end_of is_term part ≡ false → text_columns part ≡ 0
    → document ≡ before ++ part ∷ rest
    → (document ≡ (before ++ part ∷ []) ++ rest → widest_from widest (is_in_term (before ++ part ∷ [])) (sat (term_length (before ++ part ∷ []))) rest
    ≡ widest_of document (before ++ part ∷ []) rest widest)
    → widest_from widest (is_in_term before) (sat (term_length before)) rest ≡ fold max widest (filter (λ n. nat_le n 24) (lengths_from document (length before + 1) rest))
quiet document before rest part widest s e n same more = grind (arith, passed document before rest part widest (is_in_term before) (sat (term_length before)), is_in_term-push before part, term_length-push before part)

-- what a length does to the widest, as it is and with all its columns
counted : (widest n : ℕ) (ns : List ℕ) → fold max (wider widest (sat n)) (filter (λ n. nat_le n 24) ns) ≡ fold max widest (filter (λ n. nat_le n 24) (n ∷ ns))
counted widest n ns = grind (arith, nat_tests)

pub walk : (document before rest : List Part) (widest : ℕ) → document ≡ before ++ rest
    → widest_from widest (is_in_term before) (sat (term_length before)) rest ≡ widest_of document before rest widest
walk document before [] widest e = refl
walk document before (Text bytes style ∷ rest) widest e = grind (arith, common_steps, walk document (before ++ Text bytes style ∷ []) rest widest, passed, is_in_term-push, and-true, term_length-push)
walk document before (Start blocks.ItemTerm ∷ rest) widest e = grind (arith, common_steps, walk document (before ++ Start blocks.ItemTerm ∷ []) rest widest, passed, is_in_term-push, term_length-push)
walk document before (Start b ∷ rest) widest e = quiet document before rest (Start b) widest refl refl refl e (λ same. walk document (before ++ Start b ∷ []) rest widest same)
walk document before (End blocks.ItemTerm ∷ rest) widest e = grind (arith, common_steps, walk document (before ++ End blocks.ItemTerm ∷ []) rest (wider widest (sat (term_length before))), passed, is_in_term-push, and-false, term_length-push, take_at, counted)
walk document before (End b ∷ rest) widest e = quiet document before rest (End b) widest refl refl refl e (λ same. walk document (before ++ End b ∷ []) rest widest same)
