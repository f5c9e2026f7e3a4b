-- Blocks of usual bytes, which are spelled byte by byte.
use Rattle.std.specs.Prelude.{◌≡◌, ℕ, ◌+◌, ◌<◌, true, List, [], ◌∷◌, ◌++◌, refl, length, take, drop, flat_map, slice_index, slice_set, IsUtf8}
use Rattle.std.proofs.Common.{ap, sym, ◌∙◌, arith, append_assoc, append-nil, get_or}
use Rattle.std.specs.List.{list_all}
use Rattle.std.specs.Str.{chars, IsAscii}
use Rattle.std.proofs.lemmas.Bool.{and_parts, cases_lt}
use Rattle.std.proofs.lemmas.Bool.Decides.{nat_tests}
use Rattle.std.proofs.lemmas.List.Sums.{AllPass-from_list_all}
use Rattle.std.proofs.lemmas.List.{take-append-drop, take_more, get_or-set_same, get_or-set_other}
use Rattle.std.proofs.lemmas.List.Concat.{flat_map-append}
use Rattle.std.proofs.lemmas.Str.{chars-append, chars-IsAscii, encode_ascii, IsUtf8-append, IsUtf8-nil, IsUtf8-from_ascii}
use Rattle.std.proofs.lemmas.Str.Ascii.{IsAscii-from_all}
use Rattle.replay.specs.Encoding.{character_spelling, spelling}
use Rattle.replay.specs.Steps.{AreOf, is_usual, usual_spelling}

small_one : (b : ℕ) → is_usual b ≡ true → b < 128
small_one b h = grind (arith, nat_tests)

spelled_one : (b : ℕ) → is_usual b ≡ true → character_spelling b ≡ usual_spelling b
spelled_one b h = grind (arith, nat_tests, encode_ascii)

spelled_each : (bytes : List ℕ) → list_all is_usual bytes ≡ true → flat_map character_spelling bytes ≡ flat_map usual_spelling bytes
spelled_each [] h = refl
spelled_each (b ∷ bytes) h =
    let both = and_parts (is_usual b) (list_all is_usual bytes) h in
    rw (spelled_one b both.0, spelled_each bytes both.1) refl

ascii : (bytes : List ℕ) → list_all is_usual bytes ≡ true → IsAscii bytes
ascii bytes h = IsAscii-from_all bytes (λ k d l. small_one _ (AllPass-from_list_all is_usual bytes h k d l))

pub block_spelled : (bytes : List ℕ) → list_all is_usual bytes ≡ true → spelling bytes ≡ flat_map usual_spelling bytes
block_spelled bytes h = ap (λ cs. flat_map character_spelling cs) (chars-IsAscii bytes (ascii bytes h)) ∙ spelled_each bytes h

-- what a usual byte becomes is ASCII
text_one : (b : ℕ) → is_usual b ≡ true → IsUtf8 (usual_spelling b)
text_one b h = IsUtf8-from_ascii (usual_spelling b) (ascii (usual_spelling b) (grind (arith, nat_tests)))

pub block_text : (bytes : List ℕ) → list_all is_usual bytes ≡ true → IsUtf8 (flat_map usual_spelling bytes)
block_text [] h = IsUtf8-nil
block_text (b ∷ bytes) h =
    let both = and_parts (is_usual b) (list_all is_usual bytes) h in
    IsUtf8-append (usual_spelling b) (flat_map usual_spelling bytes) (text_one b both.0) (block_text bytes both.1)

pub spelled_more : (bytes : List ℕ) (i : ℕ) → i < length bytes → flat_map usual_spelling (take (i + 1) bytes) ≡ flat_map usual_spelling (take i bytes) ++ usual_spelling (get_or bytes i 0)
spelled_more bytes i lt =
    ap (flat_map usual_spelling) (take_more bytes i 0 lt)
    ∙ flat_map-append usual_spelling (take i bytes) (get_or bytes i 0 ∷ [])
    ∙ ap (λ x. flat_map usual_spelling (take i bytes) ++ x) (append-nil (usual_spelling (get_or bytes i 0)))

-- one more of what f makes of the bytes
pub of_more : (f : ℕ → ℕ) (bytes xs : List ℕ) (i x : ℕ) → i < length xs → AreOf f bytes i xs → x ≡ f (slice_index bytes i) → AreOf f bytes (i + 1) (slice_set xs i x)
of_more f bytes xs i x lt all e j l = grind (arith, cases_lt j i, get_or-set_same, get_or-set_other, all j)

-- a block is written, and what comes after it as the rest says
pub block_on : (out more last whole rest block others after : List ℕ) (n : ℕ) → IsUtf8 block → block ≡ take n rest → others ≡ drop n rest
    → more ≡ out ++ spelling block → last ++ spelling after ≡ more ++ spelling others → out ++ spelling rest ≡ whole → last ++ spelling after ≡ whole
block_on out more last whole rest block others after n utf8 front back is then so_far =
    let cut : block ++ others ≡ rest = rw (front, back) (take-append-drop n rest) in
    then
    ∙ ap (λ x. x ++ spelling others) is
    ∙ append_assoc out (spelling block) (spelling others)
    ∙ ap (λ x. out ++ x) (sym (flat_map-append character_spelling (chars block) (chars others)))
    ∙ ap (λ cs. out ++ flat_map character_spelling cs) (sym (chars-append block others utf8))
    ∙ ap (λ x. out ++ spelling x) cut
    ∙ so_far
