-- What stands within the lines of a paragraph or an item: words, literals and links.
use Rattle.std.specs.Prelude.{ℕ, zero, suc, ◌-◌, Bool, codes, true, false, not, ◌&&◌, ◌||◌, ◌==◌, nat_lt, List, [], ◌∷◌, ◌++◌, length, take, drop, flat_map, slice_index, if◌then◌else◌}
use Rattle.std.specs.List.{list_all, onto_first, prefix_len, starts_with}
use Rattle.page_model.specs.Content.{Piece, words, literal, value, link, page, Line}
use Rattle.description_texts.specs.TextsCut.{cut}

-- ---- white space

abbrev pub is_blank : ℕ → Bool
is_blank b = b == 32

abbrev pub is_white : ℕ → Bool
is_white b = b == 32 || b == 9

abbrev pub without_white_front : List ℕ → List ℕ
without_white_front text = drop (prefix_len is_white text) text

-- whether a text is at its end, or continues with white space
abbrev pub is_edge_front : List ℕ → Bool
is_edge_front [] = true
is_edge_front (b ∷ text) = is_white b

-- of a run of white space the last byte stays, as a blank; none stays at the end
abbrev pub squeezed_byte : ℕ → List ℕ → List ℕ
squeezed_byte b text = if is_white b then (if is_edge_front text then [] else 32 ∷ []) else b ∷ []

abbrev pub squeezed : List ℕ → List ℕ
squeezed [] = []
squeezed (b ∷ text) = squeezed_byte b text ++ squeezed text

-- each run of blanks and tabs is one blank, and none stands at the ends
abbrev pub spaced : List ℕ → List ℕ
spaced line = squeezed (without_white_front line)

-- ---- literals

abbrev pub is_quote : ℕ → Bool
is_quote b = b == 96

abbrev pub begins_quote : List ℕ → Bool
begins_quote [] = false
begins_quote (b ∷ text) = is_quote b

-- a backquote with no other beside it
abbrev pub is_lone : (after_quote : Bool) → ℕ → List ℕ → Bool
is_lone after_quote b text = is_quote b && not after_quote && not (begins_quote text)

-- the parts between such backquotes, of a text after a backquote or not
abbrev pub lone_split : (after_quote : Bool) → List ℕ → List (List ℕ)
lone_split after_quote [] = [] ∷ []
lone_split after_quote (b ∷ text) =
    let parts : List (List ℕ) = lone_split (is_quote b) text in
    if is_lone after_quote b text then [] ∷ parts else onto_first b parts

abbrev pub lone_parts : List ℕ → List (List ℕ)
lone_parts text = lone_split false text

abbrev pub last_byte : List ℕ → ℕ
last_byte text = slice_index text (length text - 1)

-- whether a text is at its start, or white space stands last in it
abbrev pub is_edge_back : List ℕ → Bool
is_edge_back text = length text == 0 || is_white (last_byte text)

-- White space of a literal is dropped at its ends, where white space of the text
-- or the end of the line stands beside it.
abbrev pub front_kept : (before inner : List ℕ) → List ℕ
front_kept before inner = if is_edge_back before then without_white_front inner else inner

-- after a letter at most one blank stands
abbrev pub without_white_end : List ℕ → List ℕ
without_white_end text = if is_white (last_byte text) then take (length text - 1) text else text

abbrev pub end_kept : (inner after : List ℕ) → List ℕ
end_kept inner after = if is_edge_front after then without_white_end inner else inner

-- what stands between two such backquotes is a literal, unless it is only blanks
abbrev pub quoted : (before inner after : List ℕ) → Line
quoted before inner after =
    if list_all is_white inner then words (96 ∷ []) ∷ words inner ∷ words (96 ∷ []) ∷ []
    else literal (end_kept (front_kept before inner) after) ∷ []

-- ---- links

abbrev pub is_link_front : ℕ → Bool
is_link_front b = b == 60

-- printable ASCII without blanks, `<`, `>` and backquotes
abbrev pub is_link_byte : ℕ → Bool
is_link_byte b = nat_lt 32 b && nat_lt b 127 && not (b == 60 || b == 62 || b == 96)

-- `http://` or `https://` followed by something
abbrev pub is_address : List ℕ → Bool
is_address text =
    (starts_with ◌==◌ text (codes "http://") && nat_lt 7 (length text))
    || (starts_with ◌==◌ text (codes "https://") && nat_lt 8 (length text))

-- the length of the address after `<`, up to `>`; 0 where there is none
abbrev pub address_if : ℕ → List ℕ → ℕ
address_if n text = if is_address (take n text) && slice_index text n == 62 then n else 0

abbrev pub address_len : List ℕ → ℕ
address_len text = address_if (prefix_len is_link_byte text) text

-- the same of a byte and what follows it
abbrev pub link_len : ℕ → List ℕ → ℕ
link_len b text = if is_link_front b then address_len text else 0

abbrev pub with_end : ℕ → ℕ
with_end zero = 0
with_end (suc len) = suc (suc len)

-- a link also has the byte after its address
abbrev pub link_more : ℕ → List ℕ → ℕ
link_more b text = with_end (link_len b text)

abbrev pub word : ℕ → Piece
word b = words (b ∷ [])

-- what is not a link is words, byte by byte
abbrev pub link_said : ℕ → List ℕ → Line
link_said b [] = word b ∷ []
link_said b (c ∷ more) = link (take (length more) (c ∷ more)) ∷ []

abbrev pub links : List ℕ → Line
links text = cut link_more link_said text

-- ---- the pieces of a line

-- words and literals, alternately; a last backquote that nothing closes is one of the words
abbrev pub by_turns : List (List ℕ) → Line
by_turns [] = []
by_turns (text ∷ []) = links text
by_turns (text ∷ inner ∷ []) = links (text ++ 96 ∷ inner)
by_turns (text ∷ inner ∷ after ∷ parts) = links text ++ (quoted text inner after ++ by_turns (after ∷ parts))

-- White space separates two backquotes just as a blank does, so it is made one blank first.
unfoldable pub line_pieces : List ℕ → Line
line_pieces line = by_turns (lone_parts (spaced line))

-- ---- neighbours

-- pieces, and the words after them, which may go on
pub record Draft : Type 0 where
  pub pieces : Line
  pub words : List ℕ

abbrev pub some_words : List ℕ → Line
some_words [] = []
some_words (b ∷ text) = words (b ∷ text) ∷ []

abbrev pub whole : Draft → Line
whole draft = draft.pieces ++ some_words draft.words

abbrev pub with_words : Draft → List ℕ → Draft
with_words draft text = record { pieces = draft.pieces; words = draft.words ++ text }

abbrev pub with_apart : Draft → Piece → Draft
with_apart draft piece = record { pieces = whole draft ++ piece ∷ []; words = [] }

abbrev pub with_piece : Draft → Piece → Draft
with_piece draft (words text) = with_words draft text
with_piece draft (literal text) = with_apart draft (literal text)
with_piece draft (value text) = with_apart draft (value text)
with_piece draft (link text) = with_apart draft (link text)
with_piece draft (page name) = with_apart draft (page name)

abbrev pub with_pieces : Draft → Line → Draft
with_pieces draft [] = draft
with_pieces draft (piece ∷ pieces) = with_pieces (with_piece draft piece) pieces

abbrev pub nothing : Draft
nothing = record { pieces = []; words = [] }

-- words that are neighbours are one piece, and empty ones are nothing
abbrev pub gathered : Line → Line
gathered pieces = whole (with_pieces nothing pieces)

-- ---- lines that are shown as one

-- a line after another one
abbrev pub further_pieces : List ℕ → Line
further_pieces line = words (32 ∷ []) ∷ line_pieces line

-- lines with a blank between two
unfoldable pub shown_line : List ℕ → List (List ℕ) → Line
shown_line first more = gathered (line_pieces first ++ flat_map further_pieces more)
