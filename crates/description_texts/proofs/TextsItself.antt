-- A line of words with one blank between two says itself.
use Rattle.std.proofs.Common.{◌≡◌, ℕ, ◌+◌, ◌<◌, ◌≤◌, length, get_or, Bool, true, false, cond, not, List, [], ◌∷◌, ◌++◌, map, drop, refl, ap, sym, ◌∙◌, arith}
use Rattle.std.specs.Prelude.{if◌then◌else◌, ◌==◌, ◌&&◌}
use Rattle.std.specs.List.{onto_first, prefix_len}
use Rattle.std.proofs.lemmas.Bool.{and_parts, false≢true}
use Rattle.std.proofs.lemmas.Bool.Decides.{nat_tests}
use Rattle.std.proofs.lemmas.List.{drop_all, drop_more}
use Rattle.description_texts.specs.TextsInside.{Draft, by_turns, is_edge_front, is_link_front, is_lone, is_quote, is_white, line_pieces, link_len, links, lone_parts, lone_split, spaced, squeezed, with_pieces, with_words, without_white_front, word}
use Rattle.description_texts.specs.TextsView.{says_itself, stays_here}
use Rattle.description_texts.proofs.TextsLinks.{word_next}
use Rattle.description_texts.proofs.TextsPieces.{words_by_byte}

-- ---- a byte that stays

record Stays (b : ℕ) (after_white : Bool) : Type 0 where
  quote : is_quote b ≡ false
  front : is_link_front b ≡ false

stays_so : (b : ℕ) (after_white : Bool) → stays_here b after_white ≡ true → Stays b after_white
stays_so b after_white h = record { quote = grind (arith, nat_tests); front = grind (arith, nat_tests) }

-- ---- white space

no_edge : (line : List ℕ) → says_itself true line ≡ true → is_edge_front line ≡ false
no_edge [] h = absurd (false≢true h)
no_edge (b ∷ line) h = let here = (and_parts (stays_here b true) (says_itself (b == 32) line) h).0 in no_white here where
  no_white : stays_here b true ≡ true → is_white b ≡ false
  no_white e = grind (arith, nat_tests)

squeezed_here : (white : Bool) (b : ℕ) (after_white : Bool) (line : List ℕ) → is_white b ≡ white → stays_here b after_white ≡ true → says_itself (b == 32) line ≡ true → (if white then (if is_edge_front line then [] else 32 ∷ []) else b ∷ []) ≡ b ∷ []
squeezed_here true b after_white line e h k = ap (λ t. if t then [] else 32 ∷ []) (no_edge line (blank e h)) ∙ ap (λ c. c ∷ []) (sym (is_blank e h)) where
  is_blank : is_white b ≡ true → stays_here b after_white ≡ true → b ≡ 32
  is_blank e h = grind (arith, nat_tests)

  blank : is_white b ≡ true → stays_here b after_white ≡ true → says_itself true line ≡ true
  blank e h = sym (ap (λ c. says_itself (c == 32) line) (is_blank e h)) ∙ k
squeezed_here false b after_white line e h k = refl

same_squeezed : (after_white : Bool) (line : List ℕ) → says_itself after_white line ≡ true → squeezed line ≡ line
same_squeezed after_white [] h = refl
same_squeezed after_white (b ∷ line) h =
    let both = and_parts (stays_here b after_white) (says_itself (b == 32) line) h in
    ap (λ bytes. bytes ++ squeezed line) (squeezed_here (is_white b) b after_white line refl both.0 both.1) ∙ ap (λ bytes. b ∷ bytes) (same_squeezed (b == 32) line both.1)

front_by : (t : Bool) (n : ℕ) (line : List ℕ) → t ≡ false → drop (cond t n 0) line ≡ line
front_by true n line e = absurd (false≢true (sym e))
front_by false n line e = refl

same_front : (line : List ℕ) → says_itself true line ≡ true → without_white_front line ≡ line
same_front [] h = refl
same_front (b ∷ line) h = front_by (is_white b) (1 + prefix_len is_white line) (b ∷ line) (no_edge (b ∷ line) h)

same_spaced : (line : List ℕ) → says_itself true line ≡ true → spaced line ≡ line
same_spaced line h = ap squeezed (same_front line h) ∙ same_squeezed true line h

-- ---- backquotes and links

not_lone : (after : Bool) (b : ℕ) (text : List ℕ) (parts : List (List ℕ)) → is_quote b ≡ false → (if is_lone after b text then [] ∷ parts else onto_first b parts) ≡ onto_first b parts
not_lone after b text parts e = grind arith

one_part : (after_white after : Bool) (line : List ℕ) → says_itself after_white line ≡ true → lone_split after line ≡ line ∷ []
one_part after_white after [] h = refl
one_part after_white after (b ∷ line) h =
    let both = and_parts (stays_here b after_white) (says_itself (b == 32) line) h in
    not_lone after b line (lone_split (is_quote b) line) (stays_so b after_white both.0).quote ∙ ap (onto_first b) (one_part (b == 32) (is_quote b) line both.1)

no_link : (b : ℕ) (line : List ℕ) → is_link_front b ≡ false → link_len b line ≡ 0
no_link b line e = grind arith

words_alone : (after_white : Bool) (line : List ℕ) → says_itself after_white line ≡ true → links line ≡ map word line
words_alone after_white [] h = refl
words_alone after_white (b ∷ line) h =
    let both = and_parts (stays_here b after_white) (says_itself (b == 32) line) h in
    let none : link_len b line ≡ 0 = no_link b line (stays_so b after_white both.0).front in
    word_next (b ∷ line) 0 (omega arith) refl none ∙ ap (λ ps. word b ∷ ps) (words_alone (b == 32) line both.1)

same_pieces : (line : List ℕ) → says_itself true line ≡ true → line_pieces line ≡ map word line
unfolding line_pieces
same_pieces line h = ap (λ text. by_turns (lone_parts text)) (same_spaced line h) ∙ ap by_turns (one_part true false line h) ∙ words_alone true line h

pub itself_put : (draft : Draft) (line : List ℕ) → says_itself true line ≡ true → with_words draft line ≡ with_pieces draft (line_pieces line)
itself_put draft line h = sym (ap (with_pieces draft) (same_pieces line h) ∙ words_by_byte draft line)

-- ---- byte by byte

pub itself_at : (line : List ℕ) (at : ℕ) (after_white : Bool) → at < length line → says_itself after_white (drop at line) ≡ (stays_here (get_or line at 0) after_white && says_itself (get_or line at 0 == 32) (drop (at + 1) line))
itself_at line at after_white h = ap (says_itself after_white) (drop_more line at 0 h)

pub itself_end : (line : List ℕ) (at : ℕ) (after_white : Bool) → length line ≤ at → says_itself after_white (drop at line) ≡ not after_white
itself_end line at after_white h = ap (says_itself after_white) (drop_all at line h)
