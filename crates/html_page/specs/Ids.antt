-- The ids of a page.
use Rattle.std.specs.Prelude.{ℕ, ◌/◌, ◌%◌, ◌+◌, List, [], ◌∷◌, ◌++◌, ◌==◌, ◌&&◌, ◌||◌, nat_le, flat_map, codes, count_by, bytes_eq, Bool, if◌then◌else◌}
use Rattle.std.specs.Char.{digit_char}
use Rattle.std.specs.Fmt.{decimal}

-- an ASCII letter or digit, `-` or `_`
abbrev pub is_id_byte : ℕ → Bool
is_id_byte b = (nat_le 97 b && nat_le b 122) || (nat_le 65 b && nat_le b 90) || (nat_le 48 b && nat_le b 57) || b == 45 || b == 95

-- these stand for themselves, and every other byte is a dot and two hex digits
abbrev pub id_byte : ℕ → List ℕ
id_byte b = if is_id_byte b then b ∷ [] else 46 ∷ digit_char (b / 16) ∷ digit_char (b % 16) ∷ []

abbrev pub id_text : List ℕ → List ℕ
id_text = flat_map id_byte

-- in the title of a chapter a blank is a colon
abbrev pub title_byte : ℕ → List ℕ
title_byte b = if b == 32 then 58 ∷ [] else id_byte b

-- of the section of a chapter, by its title: `tide save` is `tide:save`
abbrev pub chapter_id : (title : List ℕ) → List ℕ
chapter_id = flat_map title_byte

-- of an entry in a chapter of this title, and of a heading
abbrev pub entry_id : (title word : List ℕ) → List ℕ
entry_id title word = chapter_id title ++ (codes "::" ++ id_text word)

abbrev pub heading_id : (title heading : List ℕ) → List ℕ
heading_id title heading = chapter_id title ++ (codes ":::" ++ id_text heading)

-- where others of the chapter have it too, the second and later ones have their number after it
abbrev pub numbered : (id : List ℕ) → (earlier : ℕ) → List ℕ
numbered id earlier = if earlier == 0 then id else id ++ (codes "::" ++ decimal (earlier + 1))

-- how many of these are this text
abbrev pub times : List ℕ → List (List ℕ) → ℕ
times text texts = count_by (bytes_eq text) texts
