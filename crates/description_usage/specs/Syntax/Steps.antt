-- The classes of bytes that the code asks for.
use Rattle.std.specs.Prelude.{ℕ, Bool}
use Rattle.description_usage.specs.Syntax.{is_closing, is_opening, is_separator, is_word_byte}
use Rattle.description_usage.specs.declared.syntax.Class.{Class}
use Rattle.description_usage.specs.declared.syntax.Class.TheVariants as class

abbrev pub is_in : Class → ℕ → Bool
is_in class.Separator b = is_separator b
is_in class.Word b = is_word_byte b
is_in class.Opening b = is_opening b
is_in class.Closing b = is_closing b
