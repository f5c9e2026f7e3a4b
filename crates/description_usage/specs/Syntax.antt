-- The syntax of an option: one text that says how the option is written. What of it is a name, what a word for a
-- value, what it is called, and what of it a usage shows.
pub mod Steps
use Rattle.std.specs.Prelude.{codes, ℕ, ◌-◌, List, [], ◌∷◌, ◌++◌, ◌==◌, length, drop, take, map, find, count_by, nat_lt, unwrap_or, option_map, Bool, true, false, not, ◌&&◌, ◌||◌, if◌then◌else◌, Option, Some, None}
use Rattle.std.specs.Char.{is_ascii_alphanumeric, is_ascii_lowercase, is_ascii_uppercase}
use Rattle.std.specs.List.{ends_with, list_any, onto_first, prefix_len, slice_get}
use Rattle.page_model.specs.Content.{Piece, words, literal, value, Line}
use Rattle.description_usage.specs.Margins.{without_margins}

-- ---- bytes

-- [ ( < {
abbrev pub is_opening : ℕ → Bool
is_opening b = (b == 91 || b == 40) || (b == 60 || b == 123)

-- ] ) > }
abbrev pub is_closing : ℕ → Bool
is_closing b = (b == 93 || b == 41) || (b == 62 || b == 125)

abbrev pub is_bracket : ℕ → Bool
is_bracket b = is_opening b || is_closing b

-- what a name may directly follow: a blank, a comma, a bar or an opening bracket
abbrev pub is_lead : ℕ → Bool
is_lead b = (b == 32 || (b == 44 || b == 124)) || is_opening b

-- those, `=` and the closing brackets
abbrev pub is_separator : ℕ → Bool
is_separator b = is_lead b || (b == 61 || is_closing b)

-- ASCII letters and digits, `-` and `_`
abbrev pub is_word_byte : ℕ → Bool
is_word_byte b = is_ascii_alphanumeric b || (b == 45 || b == 95)

abbrev pub is_dash : ℕ → Bool
is_dash b = b == 45

-- the first byte passes the test
abbrev pub begins : (ℕ → Bool) → List ℕ → Bool
begins test [] = false
begins test (b ∷ bs) = test b

-- ---- stretches

abbrev pub is_same : Bool → Bool → Bool
is_same true b = b
is_same false b = not b

-- a byte before stretches: it joins the first, if the test says the same of both, otherwise it is a stretch of its own
abbrev pub onto_stretches : (test : ℕ → Bool) → ℕ → List (List ℕ) → List (List ℕ)
onto_stretches test b [] = (b ∷ []) ∷ []
onto_stretches test b ([] ∷ ss) = (b ∷ []) ∷ ss
onto_stretches test b ((c ∷ cs) ∷ ss) = if is_same (test b) (test c) then (b ∷ c ∷ cs) ∷ ss else (b ∷ []) ∷ (c ∷ cs) ∷ ss

-- a text cut into the longest stretches whose bytes all pass a test, or all fail it
abbrev pub stretches : (test : ℕ → Bool) → List ℕ → List (List ℕ)
stretches test [] = []
stretches test (b ∷ bs) = onto_stretches test b (stretches test bs)

-- ---- names: the text is cut into runs and what separates them; `before` is all that stands before such a stretch

-- at the start, or directly after a lead
abbrev pub leads : Option ℕ → Bool
leads None = true
leads (Some b) = is_lead b

abbrev pub is_place : (before : List ℕ) → Bool
is_place before = leads (slice_get before (length before - 1))

-- a byte that is not a dash
abbrev pub has_letter : List ℕ → Bool
has_letter = list_any (λ b. not (is_dash b))

-- a dash, and not dashes alone
abbrev pub has_form_of_name : List ℕ → Bool
has_form_of_name run = begins is_dash run && has_letter run

abbrev pub is_name : (before run : List ℕ) → Bool
is_name before run = is_place before && has_form_of_name run

abbrev pub negation : List ℕ
negation = codes "--[no-]"

-- directly after a negation that stands where a name may
abbrev pub is_negated : (before run : List ℕ) → Bool
is_negated before run = (ends_with ◌==◌ before negation && is_place (take (length before - length negation) before)) && has_letter run

-- ---- the line of a syntax

-- a word that begins with a capital and holds no small letter stands for a value
abbrev pub is_metavar : List ℕ → Bool
is_metavar word = begins is_ascii_uppercase word && not (list_any is_ascii_lowercase word)

abbrev pub word_piece : List ℕ → Piece
word_piece word = if is_metavar word then value word else words word

-- outside names, the words and what stands between them
abbrev pub word_pieces : List ℕ → Line
word_pieces text = map word_piece (stretches is_word_byte text)

abbrev pub stretch_pieces : (before text : List ℕ) → Line
stretch_pieces before text = if is_name before text || is_negated before text then literal text ∷ [] else word_pieces text

abbrev pub pieces_after : (before : List ℕ) → List (List ℕ) → Line
pieces_after before [] = []
pieces_after before (text ∷ texts) = stretch_pieces before text ++ pieces_after (before ++ text) texts

abbrev pub syntax_line : List ℕ → Line
syntax_line text = pieces_after [] (stretches is_separator text)

-- ---- the parts that commas separate

-- after as many closing brackets as opening ones
abbrev pub is_outside : (before : List ℕ) → Bool
is_outside before = count_by is_opening before == count_by is_closing before

-- a byte is left out where the text is cut, otherwise it belongs to the first part
abbrev pub onto_parts : (is_cut : Bool) → ℕ → List (List ℕ) → List (List ℕ)
onto_parts true b ps = [] ∷ ps
onto_parts false b ps = onto_first b ps

-- the parts that the bytes `mark` outside brackets separate
abbrev pub parts_after : (mark : ℕ) → (before : List ℕ) → List ℕ → List (List ℕ)
parts_after mark before [] = [] ∷ []
parts_after mark before (b ∷ bs) = onto_parts (b == mark && is_outside before) b (parts_after mark (before ++ b ∷ []) bs)

abbrev pub parts : (mark : ℕ) → List ℕ → List (List ℕ)
parts mark = parts_after mark []

-- the parts that the commas outside brackets separate, without the blanks at their ends, and without newlines, which no
-- description gives
abbrev pub ways : List ℕ → List (List ℕ)
ways text = map without_margins (parts 44 text)

-- each as a term of an entry
abbrev pub syntax_terms : List ℕ → List Line
syntax_terms text = map syntax_line (ways text)

-- ---- what it is called

-- a stretch outside brackets that is a name
abbrev pub stretch_names : (before text : List ℕ) → List (List ℕ)
stretch_names before text = if is_outside before && (is_name before text || is_negated before text) then text ∷ [] else []

abbrev pub names_after : (before : List ℕ) → List (List ℕ) → List (List ℕ)
names_after before [] = []
names_after before (text ∷ texts) = stretch_names before text ++ names_after (before ++ text) texts

abbrev pub syntax_names : List ℕ → List (List ℕ)
syntax_names text = names_after [] (stretches is_separator text)

-- the first
abbrev pub first_name : List ℕ → Option (List ℕ)
first_name text = slice_get (syntax_names text) 0

-- a name without the dashes at its front
abbrev pub without_dashes : List ℕ → List ℕ
without_dashes name = drop (prefix_len is_dash name) name

-- the first name without its dashes; the whole text, where it has none
abbrev pub syntax_word : List ℕ → List ℕ
syntax_word text = unwrap_or (option_map without_dashes (first_name text)) text

-- ---- the usage

-- a name and nothing else
abbrev pub is_one_name : List ℕ → Bool
is_one_name way = has_form_of_name way && not (list_any is_separator way)

abbrev pub first_way : List (List ℕ) → List ℕ
first_way [] = []
first_way (way ∷ others) = way

-- the first that is more than a name; else the first
abbrev pub way_of : List (List ℕ) → List ℕ
way_of all = unwrap_or (find (λ way. not (is_one_name way)) all) (first_way all)

-- what a usage shows of a syntax
abbrev pub shown_way : List ℕ → List ℕ
shown_way text = way_of (ways text)

abbrev pub shown_line : List ℕ → Line
shown_line text = syntax_line (shown_way text)

-- a bar outside brackets
abbrev pub has_bar : List ℕ → Bool
has_bar way = nat_lt 1 (length (parts 124 way))
