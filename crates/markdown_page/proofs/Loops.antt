-- Steps of loops over the bytes of a text.
use Rattle.std.proofs.Common.{◌≡◌, ◌<◌, ◌≤◌, ◌+◌, ◌-◌, ℕ, zero, suc, max, arith, Bool, false, ◌&&◌, ◌||◌, List, [], ◌∷◌, ◌++◌, length, get_or, drop, refl, ap, ◌∙◌, add-one}
use Rattle.std.specs.Prelude.{◌==◌, if◌then◌else◌}
use Rattle.std.proofs.Math.Seq.{drop-cons}
use Rattle.markdown_page.specs.Bytes.{graves, holds_definition}
use Rattle.markdown_page.specs.Exact.{has_edge, indent, is_edge, longest_of}
use Rattle.markdown_page.specs.Reader.{last_or, longest_run}

-- what is left of a list: its next item and others
pub drop_next : {X : Type 0} (xs : List X) (i : ℕ) (d : X) → i < length xs → drop i xs ≡ get_or xs i d ∷ drop (i + 1) xs
drop_next xs i d h = rw (add-one i) (drop-cons xs i d h)

pub graves_next : (n : ℕ) → graves (n + 1) ≡ graves n ++ 96 ∷ []
graves_next zero = refl
graves_next (suc n) = let e : suc n + 1 ≡ suc (n + 1) = omega arith in ap graves e ∙ ap (λ x. 96 ∷ x) (graves_next n)

pub more_graves : (n : ℕ) → graves (suc (n + 1)) ≡ graves (suc n) ++ 96 ∷ []
more_graves n = ap (λ x. 96 ∷ x) (graves_next n)

pub last_read : (b : ℕ) (bytes : List ℕ) → last_or b bytes ≡ get_or (b ∷ bytes) (length bytes) 0
last_read b [] = refl
last_read b (c ∷ bytes) = last_read c bytes

pub edge_read : (text : List ℕ) → 0 < length text → has_edge text ≡ (is_edge (get_or text 0 0) || is_edge (get_or text (length text - 1) 0))
edge_read [] h = absurd (omega arith)
edge_read (b ∷ text) h = let e : suc (length text) - 1 ≡ length text = omega arith in rw e (ap (λ x. is_edge b || is_edge x) (last_read b text))

pub longest_next : (run : ℕ) (bytes : List ℕ) (i : ℕ) → i < length bytes → longest_run run (drop i bytes) ≡ (if get_or bytes i 0 == 96 then longest_run (run + 1) (drop (i + 1) bytes) else max run (longest_run 0 (drop (i + 1) bytes)))
longest_next run bytes i h = rw (add-one run) (ap (longest_run run) (drop_next bytes i 0 h))

pub longest_end : (run : ℕ) (bytes : List ℕ) (i : ℕ) → length bytes ≤ i → longest_run run (drop i bytes) ≡ run
longest_end run [] zero h = refl
longest_end run [] (suc i) h = refl
longest_end run (b ∷ bytes) zero h = absurd (omega arith)
longest_end run (b ∷ bytes) (suc i) h = longest_end run bytes i (omega arith)

pub indent_next : (n : ℕ) → indent (n + 1) ≡ indent n ++ 32 ∷ 32 ∷ []
indent_next zero = refl
indent_next (suc n) = let e : suc n + 1 ≡ suc (n + 1) = omega arith in ap indent e ∙ ap (λ x. 32 ∷ 32 ∷ x) (indent_next n)

pub at_least : (lines : List (List ℕ)) → 2 ≤ longest_of lines
at_least [] = omega arith
at_least (line ∷ lines) = let more = at_least lines in omega arith

pub longest_init : (lines : List (List ℕ)) → longest_of lines ≡ max 2 (longest_of lines)
longest_init lines = let h = at_least lines in omega arith

-- whether a text defines a link, after a bracket or not
abbrev pub defines_after : Bool → List ℕ → Bool
defines_after after [] = false
defines_after after (b ∷ text) = (after && b == 58) || defines_after (b == 93) text

pub defines_is : (text : List ℕ) → holds_definition text ≡ defines_after false text
defines_is [] = refl
defines_is (b ∷ []) = refl
defines_is (b ∷ c ∷ text) = ap (λ (x : Bool). (b == 93 && c == 58) || x) (defines_is (c ∷ text))

pub defines_next : (after : Bool) (text : List ℕ) (i : ℕ) → i < length text → defines_after after (drop i text) ≡ ((after && get_or text i 0 == 58) || defines_after (get_or text i 0 == 93) (drop (i + 1) text))
defines_next after text i h = ap (defines_after after) (drop_next text i 0 h)
