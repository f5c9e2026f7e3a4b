-- The syntax of an option: what of it are names, and how the value is given. Its words are what blanks, commas and bars
-- outside brackets separate.
use Rattle.std.specs.Prelude.{codes, ℕ, suc, ◌-◌, List, [], ◌∷◌, ◌++◌, ◌==◌, drop, take, Bool, true, false, not, ◌&&◌, ◌||◌, if◌then◌else◌, Option, Some, None}
use Rattle.std.specs.List.{list_any, onto_first, prefix_len, starts_with}
use Rattle.completions.specs.declared.syntax.How.{How}
use Rattle.completions.specs.declared.syntax.How.TheVariants as how

-- ---- bytes

-- [ ( < {
abbrev pub is_opening : ℕ → Bool
is_opening b = (b == 91 || b == 40) || (b == 60 || b == 123)

-- ] ) > }
abbrev pub is_closing : ℕ → Bool
is_closing b = (b == 93 || b == 41) || (b == 62 || b == 125)

-- a blank, a comma or a bar
abbrev pub is_gap : ℕ → Bool
is_gap b = b == 32 || (b == 44 || b == 124)

-- what ends a name: a gap, `=` or a bracket
abbrev pub ends_name : ℕ → Bool
ends_name b = is_gap b || (b == 61 || (is_opening b || is_closing b))

abbrev pub is_dash : ℕ → Bool
is_dash b = b == 45

-- ---- words

-- how deep in brackets a place is after a byte. A closing one without an opening one is ignored
abbrev pub depth_after : (depth : ℕ) → ℕ → ℕ
depth_after depth b = if is_opening b then suc depth else if is_closing b then depth - 1 else depth

-- a byte is left out where the text is cut, otherwise it belongs to the first word
abbrev pub onto_words : (is_cut : Bool) → ℕ → List (List ℕ) → List (List ℕ)
onto_words true b ws = [] ∷ ws
onto_words false b ws = onto_first b ws

abbrev pub words_in : (depth : ℕ) → List ℕ → List (List ℕ)
words_in depth [] = [] ∷ []
words_in depth (b ∷ bs) = onto_words (is_gap b && depth == 0) b (words_in (depth_after depth b) bs)

abbrev pub syntax_words : List ℕ → List (List ℕ)
syntax_words text = words_in 0 text

-- ---- a word: a name and what follows it

abbrev pub is_of_name : ℕ → Bool
is_of_name b = not (ends_name b)

abbrev pub front : List ℕ → List ℕ
front word = take (prefix_len is_of_name word) word

abbrev pub after : List ℕ → List ℕ
after word = drop (prefix_len is_of_name word) word

-- a byte that is not a dash
abbrev pub has_letter : List ℕ → Bool
has_letter = list_any (λ b. not (is_dash b))

-- a dash, and not dashes alone
abbrev pub has_form_of_name : List ℕ → Bool
has_form_of_name [] = false
has_form_of_name (b ∷ run) = is_dash b && has_letter (b ∷ run)

abbrev pub named : List ℕ → Option (List ℕ × List ℕ)
named word = if has_form_of_name (front word) then Some (front word, after word) else None

-- what follows `--[no-]`, where it is a name with and without `no-`
abbrev pub negation : List ℕ
negation = codes "--[no-]"

abbrev pub negated : List ℕ → Option (List ℕ × List ℕ)
negated word =
    if starts_with ◌==◌ word negation && has_letter (front (drop 7 word))
    then Some (front (drop 7 word), after (drop 7 word))
    else None

abbrev pub negated_names : Option (List ℕ × List ℕ) → List (List ℕ)
negated_names None = []
negated_names (Some word) = (codes "--" ++ word.0) ∷ (codes "--no-" ++ word.0) ∷ []

abbrev pub names_or : Option (List ℕ × List ℕ) → List (List ℕ) → List (List ℕ)
names_or None others = others
names_or (Some word) others = word.0 ∷ []

abbrev pub word_names : List ℕ → List (List ℕ)
word_names word = names_or (named word) (negated_names (negated word))

-- what follows the name; all of a word without one
abbrev pub tail_or : Option (List ℕ × List ℕ) → List ℕ → List ℕ
tail_or None other = other
tail_or (Some word) other = word.1

abbrev pub word_tail : List ℕ → List ℕ
word_tail word = tail_or (named word) (tail_or (negated word) word)

-- ---- how the value is given

-- in brackets it may be left out, and then only follows `=`; otherwise it follows `=`, or is a word of its own
abbrev pub tail_how : List ℕ → How
tail_how [] = how.Flag
tail_how (b ∷ tail) = if b == 91 then how.Optional else if b == 61 then how.Value else how.Word

abbrev pub or_how : How → How → How
or_how how.Flag other = other
or_how how.Value other = how.Value
or_how how.Word other = how.Word
or_how how.Optional other = how.Optional

-- as the first word that is more than a name says
abbrev pub words_how : List (List ℕ) → How
words_how [] = how.Flag
words_how (word ∷ words) = or_how (tail_how (word_tail word)) (words_how words)

abbrev pub syntax_how : List ℕ → How
syntax_how text = words_how (syntax_words text)
