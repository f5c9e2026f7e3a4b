-- What a line of a help text looks like, by itself.
use Rattle.std.specs.Prelude.{ℕ, ◌||◌, ◌&&◌, Bool, false, List, [], ◌∷◌}
use Rattle.help_blocks.specs.declared.shape.Shape.{Shape}
use Rattle.help_blocks.specs.Looks.{text, indent, is_empty, is_usage, is_listed_option, is_word, is_choice, ends_with_colon, is_in_capitals, is_code, is_typed, subject_of}

unfoldable pub shape_of : (line : List ℕ) → Shape
shape_of line = record {
  indent = indent line;
  is_empty = is_empty (text line);
  is_usage = is_usage (text line);
  is_option = is_listed_option (text line);
  is_word = is_word (text line);
  is_choice = is_choice (text line);
  ends_with_colon = ends_with_colon (text line);
  is_in_capitals = is_in_capitals (text line);
  is_code = is_code (text line);
  is_typed = is_typed (text line);
  subject = subject_of (text line);
}

abbrev pub begin_with_option : (lines : List (List ℕ)) → Bool
begin_with_option [] = false
begin_with_option (line ∷ lines) = is_listed_option (text line)

-- an empty line counts as an option, if one is right below it
abbrev pub above : Shape → (is_option : Bool) → Shape
above s o = record s { is_option = s.is_option || (s.is_empty && o) }

-- the first of some lines: where there is none, an empty one
abbrev pub first_shape : (lines : List (List ℕ)) → Shape
first_shape [] = shape_of []
first_shape (line ∷ lines) = above (shape_of line) (begin_with_option lines)
