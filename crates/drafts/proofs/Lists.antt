-- Lines without those at their end that are blank.
use Rattle.std.proofs.Common.{◌≡◌, ℕ, ◌+◌, ◌-◌, Bool, true, cond, List, [], ◌∷◌, ◌++◌, Bor, All, arith, drop, get_or, length, map, reverse, take, refl, sym, ap, ◌∙◌}
use Rattle.std.specs.List.{prefix_len, suffix_len}
use Rattle.std.proofs.lemmas.List.{drop-map, get_or-drop, get_or-reverse, length-drop, length-map, map-append, reverse-append, take-map}
use Rattle.std.proofs.lemmas.List.Sums.{prefix_len_passes, suffix_len-le-length}
use Rattle.help_blocks.specs.declared.place.Kind.{Kind}
use Rattle.drafts.specs.Passages.{PassageSaid, inked, is_blank, lines_between, passage}

map_reverse : {X Y : Type 0} (f : X → Y) (xs : List X) → map f (reverse xs) ≡ reverse (map f xs)
map_reverse f [] = refl
map_reverse f (x ∷ xs) =
    ap (map f) (reverse-append (x ∷ []) xs) ∙ map-append f (reverse xs) (x ∷ []) ∙ ap (λ ys. ys ++ f x ∷ []) (map_reverse f xs) ∙ sym (reverse-append (f x ∷ []) (map f xs))

prefix_map : {X Y : Type 0} (p : Y → Bool) (f : X → Y) (xs : List X) → prefix_len p (map f xs) ≡ prefix_len (λ x. p (f x)) xs
prefix_map p f [] = refl
prefix_map p f (x ∷ xs) = ap (λ n. cond (p (f x)) (1 + n) 0) (prefix_map p f xs)

suffix_map : {X Y : Type 0} (p : Y → Bool) (f : X → Y) (xs : List X) → suffix_len p (map f xs) ≡ suffix_len (λ x. p (f x)) xs
suffix_map p f xs = ap (prefix_len p) (sym (map_reverse f xs)) ∙ prefix_map p f (reverse xs)

-- what passes at the end
pub end_passes : {X : Type 0} (p : X → Bool) (xs : List X) → All (λ x. p x ≡ true) (drop (length xs - suffix_len p xs) xs)
end_passes p xs k d h =
    let n = length xs - suffix_len p xs in
    let j = length xs - 1 - (n + k) in
    let within = suffix_len-le-length p xs in
    let long = length-drop n xs in
    let there : length xs - 1 - j ≡ n + k = omega arith in
    let same : get_or (drop n xs) k d ≡ get_or (reverse xs) j d = get_or-drop n xs k d ∙ sym (ap (λ i. get_or xs i d) there) ∙ sym (get_or-reverse xs j d (omega arith)) in
    ap p same ∙ prefix_len_passes p (reverse xs) j d (omega arith)

abbrev Lines : Type 0
Lines = List (Bor (List ℕ))

abbrev words : Lines → List (List ℕ)
words lines = map (λ line. line.now) lines

pub inked_is : (lines : Lines) (n : ℕ) → n ≡ length lines - suffix_len (λ line. is_blank line.now) lines → words (take n lines) ≡ inked (words lines)
inked_is lines n e =
    sym (take-map (λ line. line.now) n lines)
    ∙ ap (λ k. take k (words lines)) (e ∙ ap (λ k. length lines - k) (sym (suffix_map is_blank (λ line. line.now) lines)) ∙ ap (λ k. k - suffix_len is_blank (words lines)) (sym (length-map lines (λ line. line.now))))

abbrev made : Kind → List (List ℕ) → PassageSaid
made k ls = record { kind = k; lines = ls }

-- the lines of a block
pub passage_is : (k : Kind) (lines below own : Lines) (word : Bor (List ℕ) → List ℕ) (found : Lines) (first end n : ℕ) → below ≡ drop first lines → n ≡ end - first → own ≡ take n below
    → map word found ≡ inked (map word own) → record { kind = k; lines = map word found } ≡ passage k (lines_between first end (map word lines))
passage_is k lines below own word found first end n b e o i =
    let parts : map word own ≡ lines_between first end (map word lines) =
    ap (map word) o ∙ sym (take-map word n below) ∙ ap (λ m. take m (map word below)) e ∙ ap (λ ls. take (end - first) (map word ls)) b ∙ ap (take (end - first)) (sym (drop-map word first lines)) in
    ap (made k) (i ∙ ap inked parts)
