-- The id that sites give to a heading: its letters in lower case.
use Rattle.std.specs.Prelude.{ℕ, Bool, ◌||◌, ◌==◌, List, [], codes, flat_map, chars, encode_utf8, if◌then◌else◌}
use Rattle.std.specs.StrCase.Lower.{str_to_lowercase}
use Rattle.ucd_category.specs.GeneralCategory.{general_category}
use Rattle.ucd_category.specs.GeneralCategoryGroup.{in_group}
use Rattle.ucd_category.specs.declared.GeneralCategory.{GeneralCategory}
use Rattle.ucd_category.specs.declared.GeneralCategoryGroup.TheVariants.{Letter, Mark, Number}

-- a letter, a digit or another number, or a mark
abbrev pub is_word_category : GeneralCategory → Bool
is_word_category category = in_group Letter category || (in_group Number category || in_group Mark category)

-- such a character, `-` or `_`
abbrev pub stays : ℕ → Bool
stays c = (c == 45 || c == 95) || is_word_category (general_category c)

-- white space is a blank in a heading
abbrev pub is_blank_there : ℕ → Bool
is_blank_there c = c == 32 || (c == 9 || c == 10)

-- a `-` stands for a blank, and what does not stay is left out
abbrev pub slug_character : ℕ → List ℕ
slug_character c = if is_blank_there c then codes "-" else if stays c then encode_utf8 c else []

abbrev pub slug : List ℕ → List ℕ
slug title = flat_map slug_character (chars (str_to_lowercase title))
