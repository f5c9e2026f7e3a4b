-- The syntax of an option: one text that says how the option is written. What of
-- it is a name, and when it is well formed.
pub mod Steps
use Rattle.std.specs.Prelude.{chars, codes, ℕ, ◌-◌, List, [], ◌∷◌, ◌++◌, ◌==◌, length, take, filter, fold, count_by, Bool, true, false, not, ◌&&◌, ◌||◌, if◌then◌else◌, Option, Some, None}
use Rattle.std.specs.Char.{is_whitespace}
use Rattle.std.specs.List.{ends_with, list_all, list_any, onto_first, slice_get}
use Rattle.description_toml.specs.Described.Texts.{begins, is_dash, is_empty_text}

-- ---- bytes

-- [ ( < {
abbrev pub is_opening : ℕ → Bool
is_opening b = (b == 91 || b == 40) || (b == 60 || b == 123)

-- ] ) > }
abbrev pub is_closing : ℕ → Bool
is_closing b = (b == 93 || b == 41) || (b == 62 || b == 125)

-- what a name may directly follow: a blank, a comma, a bar or an opening bracket
abbrev pub is_lead : ℕ → Bool
is_lead b = (b == 32 || (b == 44 || b == 124)) || is_opening b

-- those, `=` and the closing brackets
abbrev pub is_separator : ℕ → Bool
is_separator b = is_lead b || (b == 61 || is_closing b)

-- ---- stretches

abbrev pub is_same : Bool → Bool → Bool
is_same true b = b
is_same false b = not b

-- a byte before stretches: it joins the first, if the test says the same of both, otherwise it is a stretch of its own
abbrev pub onto_stretches : (test : ℕ → Bool) → ℕ → List (List ℕ) → List (List ℕ)
onto_stretches test b [] = (b ∷ []) ∷ []
onto_stretches test b ([] ∷ ss) = (b ∷ []) ∷ ss
onto_stretches test b ((c ∷ cs) ∷ ss) = if is_same (test b) (test c) then (b ∷ c ∷ cs) ∷ ss else (b ∷ []) ∷ (c ∷ cs) ∷ ss

-- a text cut into the longest stretches whose bytes all pass a test, or all fail it
abbrev pub stretches : (test : ℕ → Bool) → List ℕ → List (List ℕ)
stretches test [] = []
stretches test (b ∷ bs) = onto_stretches test b (stretches test bs)

-- ---- names: the text is cut into runs and what separates them; `before` is all that stands before such a stretch

-- at the start, or directly after a lead
abbrev pub leads : Option ℕ → Bool
leads None = true
leads (Some b) = is_lead b

abbrev pub is_place : (before : List ℕ) → Bool
is_place before = leads (slice_get before (length before - 1))

-- a byte that is not a dash
abbrev pub has_letter : List ℕ → Bool
has_letter = list_any (λ b. not (is_dash b))

-- a dash, and not dashes alone
abbrev pub has_form_of_name : List ℕ → Bool
has_form_of_name run = begins is_dash run && has_letter run

abbrev pub is_name : (before run : List ℕ) → Bool
is_name before run = is_place before && has_form_of_name run

abbrev pub negation : List ℕ
negation = codes "--[no-]"

-- directly after a negation that stands where a name may
abbrev pub is_negated : (before run : List ℕ) → Bool
is_negated before run = (ends_with ◌==◌ before negation && is_place (take (length before - length negation) before)) && has_letter run

-- ---- brackets

-- after as many closing brackets as opening ones
abbrev pub is_outside : (before : List ℕ) → Bool
is_outside before = count_by is_opening before == count_by is_closing before

-- two brackets of one kind
abbrev pub closes : (opening closing : ℕ) → Bool
closes o c = ((o == 91 && c == 93) || (o == 40 && c == 41)) || ((o == 60 && c == 62) || (o == 123 && c == 125))

-- the brackets that are left over, the last one first: one takes away the opening
-- one of its kind that is left directly before it
abbrev pub with_bracket : (left : List ℕ) → ℕ → List ℕ
with_bracket [] b = b ∷ []
with_bracket (o ∷ os) b = if closes o b then os else b ∷ o ∷ os

abbrev pub is_bracket : ℕ → Bool
is_bracket b = is_opening b || is_closing b

-- each bracket is in a pair
abbrev pub are_paired : List ℕ → Bool
are_paired text = is_empty_text (fold with_bracket [] (filter is_bracket text))

-- ---- the names that count

-- those outside brackets: a name, or two dashes and what follows a negation
abbrev pub stretch_names : (before text : List ℕ) → List (List ℕ)
stretch_names before text = if is_name before text then text ∷ [] else if is_negated before text then (codes "--" ++ text) ∷ [] else []

abbrev pub names_after : (before : List ℕ) → List (List ℕ) → List (List ℕ)
names_after before [] = []
names_after before (text ∷ texts) = (if is_outside before then stretch_names before text else []) ++ names_after (before ++ text) texts

abbrev pub syntax_names : List ℕ → List (List ℕ)
syntax_names text = names_after [] (stretches is_separator text)

-- ---- pieces

-- a byte is left out where the text is cut, otherwise it belongs to the first part
abbrev pub onto_parts : (is_cut : Bool) → ℕ → List (List ℕ) → List (List ℕ)
onto_parts true b ps = [] ∷ ps
onto_parts false b ps = onto_first b ps

-- the parts that the bytes `mark` outside brackets separate
abbrev pub parts_after : (mark : ℕ) → (before : List ℕ) → List ℕ → List (List ℕ)
parts_after mark before [] = [] ∷ []
parts_after mark before (b ∷ bs) = onto_parts (b == mark && is_outside before) b (parts_after mark (before ++ b ∷ []) bs)

abbrev pub parts : (mark : ℕ) → List ℕ → List (List ℕ)
parts mark = parts_after mark []

-- the parts that the commas outside brackets separate
abbrev pub pieces : List ℕ → List (List ℕ)
pieces = parts 44

-- ---- what may stand in a TOML text

-- a character that is not white space
abbrev pub has_ink : List ℕ → Bool
has_ink text = list_any (λ c. not (is_whitespace c)) (chars text)

-- brackets in pairs, and ink in each piece
abbrev pub is_well_formed : List ℕ → Bool
is_well_formed text = are_paired text && list_all has_ink (pieces text)
