-- Texts that are cut at their end.
use Rattle.std.proofs.Common.{◌≡◌, ℕ, zero, suc, ◌+◌, ◌-◌, ◌<◌, ◌≤◌, ◌≢◌, Bool, true, false, cond, List, [], ◌∷◌, ◌++◌, Bor, MatchOption, None, Some, Option, codes, drop, flat_map, get_or, length, map, take, refl, sym, ap, ◌∙◌, subst, arith}
use Rattle.std.specs.Prelude.{◌==◌, min, nat_lt, not}
use Rattle.std.specs.Str.{IsCharBoundary, IsUtf8, trim}
use Rattle.std.specs.Str.Pattern.{FindsTextPrefix, StripsPrefix}
use Rattle.std.proofs.Math.Seq.{take-append_seam}
use Rattle.toml_pieces.specs.View.{text_of}
use Rattle.std.proofs.lemmas.Str.{IsCharBoundary-from_take}
use Rattle.std.proofs.lemmas.Bool.{cond-false, cond-true}
use Rattle.std.proofs.lemmas.Bool.Decides.{nat_tests}
use Rattle.std.proofs.lemmas.List.{get_or-map, length-map, length-take, map-append, take-append-drop, take-take, take_min}
use Rattle.std.proofs.lemmas.List.Sums.{suffix_len_is}
use Rattle.std.proofs.lemmas.Slice.Eq.{bytes_eq-Decides}
use Rattle.drafts.specs.Notes.{IsFront, NoteSaid, NotesSaid, after_last, after, cut, cut_by, cut_from, joined, joined_line, last_note, split_last, with_note}

-- ---- fronts

front_size : (text front : List ℕ) → IsFront front text → length front ≤ length text
front_size text front e = let size : length front ≡ min (length front) (length text) = ap length e ∙ length-take (length front) text in omega (arith, size)

pub take_front : (n : ℕ) (text : List ℕ) → IsFront (take n text) text
take_front n text = sym (ap (λ k. take k text) (length-take n text) ∙ take_min n text)

pub front_front : (xs ys zs : List ℕ) → IsFront xs ys → IsFront ys zs → IsFront xs zs
front_front xs ys zs e f =
    e ∙ ap (take (length xs)) f ∙ take-take (length xs) (length ys) zs (front_size ys xs e)

-- ---- the last bracket

other : (x c : ℕ) → x ≢ c → not (x == c) ≡ true
other x c h = grind (arith, nat_tests)

same : (x c : ℕ) → x ≡ c → not (x == c) ≡ false
same x c h = grind (arith, nat_tests)

less : (x y : ℕ) → x < y → nat_lt x y ≡ true
less x y h = grind (arith, nat_tests)

not_less : (x y : ℕ) → y ≤ x → nat_lt x y ≡ false
not_less x y h = grind (arith, nat_tests)

pub found_last : (c k : ℕ) (text : List ℕ) → k < length text → get_or text k 0 ≡ c → ((i : ℕ) → k < i → i < length text → get_or text i 0 ≢ c)
    → split_last c text ≡ Some (take k text, drop (k + 1) text)
found_last c k text within here none =
    let after : after_last c text ≡ length text - (k + 1) = suffix_len_is (λ b. not (b == c)) text (k + 1) 0 (omega arith) (λ i above below. other (get_or text i 0) c (none i (omega arith) below)) (λ _. same (get_or text (k + 1 - 1) 0) c (ap (λ i. get_or text i 0) (omega arith) ∙ here)) in
    let start : length text - after_last c text - 1 ≡ k = omega (arith, after) in
    let end : length text - after_last c text ≡ k + 1 = omega (arith, after) in
    cond-true _ _ _ (less (after_last c text) (length text) (omega (arith, after)))
    ∙ ap (λ n. Some (take n text, drop (length text - after_last c text) text)) start ∙ ap (λ n. Some (take k text, drop n text)) end

pub none_last : (c : ℕ) (text : List ℕ) → ((i : ℕ) → i < length text → get_or text i 0 ≢ c) → split_last c text ≡ None
none_last c text none =
    let after : after_last c text ≡ length text - 0 = suffix_len_is (λ b. not (b == c)) text 0 0 (omega arith) (λ i above below. other (get_or text i 0) c (none i below)) (λ positive. absurd (omega arith)) in
    cond-false _ _ _ (not_less (after_last c text) (length text) (omega (arith, after)))

-- ---- a beginning

is_false : (b : Bool) → (b ≡ true → ⊥) → b ≡ false
is_false b h = grind arith

pub begins : (beginning text : List ℕ) (n : ℕ) → n ≡ length beginning → text ≡ beginning ++ drop n text → after beginning text ≡ Some (drop n text)
begins beginning text n e h =
    cond-true _ _ _ ((bytes_eq-Decides (take (length beginning) text) beginning).1 (ap (take (length beginning)) h ∙ take-append_seam beginning (drop n text))) ∙ ap (λ k. Some (drop k text)) (sym e)

pub begins_not : (beginning text : List ℕ) → ((rest : List ℕ) → text ≢ beginning ++ rest) → after beginning text ≡ None
begins_not beginning text h = cond-false _ _ _ (is_false _ (λ e. h (drop (length beginning) text) (sym (take-append-drop (length beginning) text) ∙ ap (λ front. front ++ drop (length beginning) text) ((bytes_eq-Decides (take (length beginning) text) beginning).0 e))))

pub prefix_is : (beginning text : List ℕ) (r : Option (Bor (List ℕ))) → MatchOption r (FindsTextPrefix beginning text None) (λ x. StripsPrefix (FindsTextPrefix beginning) text x.now) → text_of r ≡ after beginning text
prefix_is beginning text None h = sym (begins_not beginning text h)
prefix_is beginning text (Some x) h = ap Some h.2 ∙ sym (begins beginning text h.0 h.1.0 h.1.1)

-- ---- notes that are cut one after another

pub cut_done : (most : ℕ) (text whole : List ℕ) (all : NotesSaid) → None ≡ last_note text → 0 < most → cut_from most text all ≡ cut whole → record { rest = text; notes = all } ≡ cut whole
cut_done zero text whole all e some so_far = absurd (omega (arith, some))
cut_done (suc n) text whole all e some so_far = ap (cut_by (cut_from n) text all) e ∙ so_far

pub cut_more : (most : ℕ) (text before whole : List ℕ) (all : NotesSaid) (n : NoteSaid) → Some (before, n) ≡ last_note text → 0 < most → cut_from most text all ≡ cut whole → cut_from (most - 1) before (with_note all n) ≡ cut whole
cut_more zero text before whole all n e some so_far = absurd (omega (arith, some))
cut_more (suc k) text before whole all n e some so_far = ap (λ m. cut_from m before (with_note all n)) (omega arith) ∙ ap (cut_by (cut_from k) text all) e ∙ so_far

-- ---- the same lines with newlines and with blanks between

-- a newline as a blank
abbrev flat : ℕ → ℕ
flat b = cond (b == 10) 32 b

below_same : (ls : List (List ℕ)) → map flat (flat_map (joined_line (codes "\n")) ls) ≡ map flat (flat_map (joined_line (codes " ")) ls)
below_same [] = refl
below_same (l ∷ ls) =
    map-append flat (10 ∷ trim l) (flat_map (joined_line (codes "\n")) ls) ∙ ap (λ rest. 32 ∷ map flat (trim l) ++ rest) (below_same ls)
    ∙ sym (map-append flat (32 ∷ trim l) (flat_map (joined_line (codes " ")) ls))

joined_same : (ls : List (List ℕ)) → map flat (joined (codes "\n") ls) ≡ map flat (joined (codes " ") ls)
joined_same [] = refl
joined_same (l ∷ ls) =
    map-append flat (trim l) (flat_map (joined_line (codes "\n")) ls) ∙ ap (λ rest. map flat (trim l) ++ rest) (below_same ls)
    ∙ sym (map-append flat (trim l) (flat_map (joined_line (codes " ")) ls))

pub joined_length : (ls : List (List ℕ)) → length (joined (codes "\n") ls) ≡ length (joined (codes " ") ls)
joined_length ls =
    let text = joined (codes "\n") ls in
    let spaced = joined (codes " ") ls in
    sym (length-map text flat) ∙ ap length (joined_same ls) ∙ length-map spaced flat

same_start : (x y : ℕ) → flat x ≡ flat y → (128 ≤ y → 192 ≤ y) → 128 ≤ x → 192 ≤ x
same_start x y e h large = grind (arith, nat_tests)

same_boundary : (xs ys : List ℕ) (n : ℕ) → map flat xs ≡ map flat ys → IsCharBoundary ys n → IsCharBoundary xs n
same_boundary xs ys n e h =
    let size : length xs ≡ length ys = sym (length-map xs flat) ∙ ap length e ∙ length-map ys flat in (
      omega (arith, h.0, size),
      λ below large. same_start (get_or xs n 0) (get_or ys n 0)
          (sym (get_or-map flat xs n 0 0 below) ∙ ap (λ bs. get_or bs n 0) e ∙ get_or-map flat ys n 0 0 (omega (arith, size))) (h.1 (omega (arith, size))) large,
    )

-- what is cut of lines with blanks between may be cut of them with newlines
pub help_cut : (ls : List (List ℕ)) (text spaced rest : List ℕ) → text ≡ joined (codes "\n") ls → spaced ≡ joined (codes " ") ls → IsFront rest spaced → IsUtf8 spaced → IsUtf8 rest → IsCharBoundary text (length rest)
help_cut ls text spaced rest t s f u v =
    same_boundary text spaced (length rest) (ap (map flat) t ∙ joined_same ls ∙ ap (map flat) (sym s))
    (IsCharBoundary-from_take spaced (length rest) u (front_size spaced rest f) (subst IsUtf8 f v))
