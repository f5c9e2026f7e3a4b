-- Which characters a line does not show as they stand.
use Rattle.std.specs.Prelude.{ℕ, Bool, ◌||◌, ◌&&◌, ◌==◌, nat_le}
use Rattle.std.specs.Char.{is_control}
use Rattle.unicode.specs.Binary.{is_default_ignorable_code_point, is_noncharacter_code_point}

abbrev pub is_between : (first last : ℕ) → ℕ → Bool
is_between first last c = nat_le first c && nat_le c last

-- Nothing is seen of it where it stands: what a font may leave out (`Default_Ignorable_Code_Point` of Unicode: soft
-- hyphens, fillers, joiners and spaces of no width, marks of direction, selectors of variants, tags), marks of notes
-- between lines, U+FFF9 to U+FFFB, and the pattern of Braille without a dot, U+2800.
abbrev pub is_unseen : ℕ → Bool
is_unseen c = is_default_ignorable_code_point c || (is_between 0xFFF9 0xFFFB c || c == 0x2800)

-- what ends a line or a paragraph
abbrev pub is_separator : ℕ → Bool
is_separator c = is_between 0x2028 0x2029 c

abbrev pub is_hidden : ℕ → Bool
is_hidden c = is_control c || (is_unseen c || (is_separator c || is_noncharacter_code_point c))
