-- A word of bytes that may stand bare stands bare.
use Rattle.std.proofs.Common.{◌≡◌, ℕ, Bool, true, ◌&&◌, ◌||◌, List, [], ◌∷◌, suc, refl, ap, ◌∙◌, arith}
use Rattle.std.specs.Prelude.{nat_le}
use Rattle.std.specs.List.{list_all}
use Rattle.std.specs.Str.{IsAscii}
use Rattle.std.proofs.lemmas.Bool.{and_parts, and_from}
use Rattle.std.proofs.lemmas.Bool.Decides.{nat_tests}
use Rattle.std.proofs.lemmas.Str.{chars-IsAscii}
use Rattle.unicode.specs.Binary.{is_uppercase}
use Rattle.ucd_table.specs.Rows.{Range, in_ranges}
use Rattle.ucd_derived.specs.UppercaseRanges.{uppercase_ranges}
use Rattle.description_usage.specs.Names.{is_bare, is_bare_byte, is_bare_character}

in_first : (range : Range) (ranges : List Range) (c : ℕ) → (nat_le range.0 c && nat_le c range.1) ≡ true → in_ranges (range ∷ ranges) c ≡ true
unfolding in_ranges
in_first range ranges c h = ap (λ (x : Bool). x || in_ranges ranges c) h

capital : (c : ℕ) → (nat_le 65 c && nat_le c 90) ≡ true → is_uppercase c ≡ true
unfolding is_uppercase uppercase_ranges
capital c h = in_first _ _ c h

bare_byte : (b : ℕ) → is_bare_byte b ≡ true → is_bare_character b ≡ true
bare_byte b h = grind (arith, capital b, nat_tests)

ascii : (bytes : List ℕ) → list_all is_bare_byte bytes ≡ true → IsAscii bytes
ascii (b ∷ bytes) h (suc i) = ascii bytes (and_parts (is_bare_byte b) (list_all is_bare_byte bytes) h).1 i
ascii x h y = grind (arith, and_parts, nat_tests)

characters : (bytes : List ℕ) → list_all is_bare_byte bytes ≡ true → list_all is_bare_character bytes ≡ true
characters [] h = refl
characters (b ∷ bytes) h =
    let parts = and_parts (is_bare_byte b) (list_all is_bare_byte bytes) h in
    and_from (is_bare_character b) (list_all is_bare_character bytes) (bare_byte b parts.0) (characters bytes parts.1)

pub bare_bytes : (word : List ℕ) → list_all is_bare_byte word ≡ true → is_bare word ≡ true
bare_bytes word h = ap (list_all is_bare_character) (chars-IsAscii word (ascii word h)) ∙ characters word h
