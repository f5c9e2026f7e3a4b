-- The pieces of a line: it is cut, outside brackets, before each blank, and before
-- a dash that directly follows a divider.
use Rattle.std.specs.Prelude.{ℕ, ◌+◌, ◌-◌, ◌==◌, ◌||◌, ◌&&◌, Bool, List, [], ◌∷◌, if◌then◌else◌}
use Rattle.std.specs.List.{onto_first}
use Rattle.help_fronts.specs.Bytes.{is_blank, is_closing, is_dash, is_divider, is_opening}

-- how many brackets are open after a byte
abbrev pub deeper : (depth : ℕ) → ℕ → ℕ
deeper depth b = if is_opening b then depth + 1 else if is_closing b then depth - 1 else depth

abbrev pub is_cut : (depth before : ℕ) → ℕ → Bool
is_cut depth before b = depth == 0 && (is_blank b || (is_dash b && is_divider before))

-- a byte before pieces: it begins one, if the text is cut before it, after one that is still empty
abbrev pub onto_pieces : (is_cut : Bool) → ℕ → List (List ℕ) → List (List ℕ)
onto_pieces is_cut b ps = if is_cut then [] ∷ onto_first b ps else onto_first b ps

-- the rest of a piece, after a byte of it, and the pieces after
abbrev pub pieces_after : (depth before : ℕ) → List ℕ → List (List ℕ)
pieces_after depth before [] = [] ∷ []
pieces_after depth before (b ∷ bs) = onto_pieces (is_cut depth before b) b (pieces_after (deeper depth b) b bs)

-- how many bytes of it there are
abbrev pub rest_len : (depth before : ℕ) → List ℕ → ℕ
rest_len depth before [] = 0
rest_len depth before (b ∷ bs) = if is_cut depth before b then 0 else 1 + rest_len (deeper depth b) b bs

abbrev pub pieces : List ℕ → List (List ℕ)
pieces [] = []
pieces (b ∷ bs) = onto_first b (pieces_after (deeper 0 b) b bs)

-- a piece without the blank that it begins with
abbrev pub word : (piece : List ℕ) → List ℕ
word [] = []
word (b ∷ bs) = if b == 32 then bs else b ∷ bs

-- the first word; an empty one, if there is none
abbrev pub first_word : (pieces : List (List ℕ)) → List ℕ
first_word [] = []
first_word (p ∷ ps) = word p
