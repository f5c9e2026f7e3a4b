-- A text of plain bytes is permitted.
use Rattle.std.proofs.Common.{◌≡◌, ℕ, true, suc, List, [], ◌∷◌, refl, ap, ◌∙◌, arith}
use Rattle.std.specs.List.{list_all}
use Rattle.std.specs.Str.{IsAscii, chars}
use Rattle.std.proofs.lemmas.Bool.{and_parts, and_from}
use Rattle.std.proofs.lemmas.Bool.Decides.{nat_tests}
use Rattle.std.proofs.lemmas.Str.{chars-IsAscii}
use Rattle.page_model.specs.Permitted.{are_permitted, is_permitted, is_permitted_byte}
use Rattle.page_model.specs.Steps.{is_plain_byte}

ascii : (bytes : List ℕ) → list_all is_plain_byte bytes ≡ true → IsAscii bytes
ascii (b ∷ bytes) h (suc i) = ascii bytes (and_parts (is_plain_byte b) (list_all is_plain_byte bytes) h).1 i
ascii x h y = grind (arith, and_parts, nat_tests)

permitted_bytes : (bytes : List ℕ) → list_all is_plain_byte bytes ≡ true → list_all is_permitted_byte bytes ≡ true
permitted_bytes [] h = refl
permitted_bytes (b ∷ bytes) h = grind (arith, permitted_bytes bytes, and_parts, and_from, nat_tests)

permitted_characters : (bytes : List ℕ) → list_all is_plain_byte bytes ≡ true → list_all is_permitted bytes ≡ true
permitted_characters [] h = refl
permitted_characters (b ∷ bytes) h = grind (arith, permitted_characters bytes, and_parts, and_from, nat_tests)

pub plain_bytes : (bytes : List ℕ) → list_all is_plain_byte bytes ≡ true → are_permitted bytes ≡ true
plain_bytes bytes h =
    and_from (list_all is_permitted_byte bytes) (list_all is_permitted (chars bytes)) (permitted_bytes bytes h)
    (ap (list_all is_permitted) (chars-IsAscii bytes (ascii bytes h)) ∙ permitted_characters bytes h)
