-- Pieces that are gathered.
use Rattle.std.proofs.Common.{◌≡◌, ℕ, ◌+◌, ◌<◌, List, length, take, get_or, [], ◌∷◌, ◌++◌, refl, ap, sym, ◌∙◌, append_assoc, append-nil, map}
use Rattle.std.specs.Prelude.{flat_map}
use Rattle.std.proofs.lemmas.List.{map-append, take_more}
use Rattle.std.proofs.lemmas.List.Concat.{flat_map-append}
use Rattle.page_model.specs.Content.{link, Line}
use Rattle.description_texts.specs.TextsInside.{Draft, by_turns, further_pieces, line_pieces, links, lone_parts, nothing, quoted, with_apart, with_piece, with_pieces, with_words, word}

pub pieces_then : (draft : Draft) (a b : Line) → with_pieces draft (a ++ b) ≡ with_pieces (with_pieces draft a) b
pieces_then draft [] b = refl
pieces_then draft (piece ∷ a) b = pieces_then (with_piece draft piece) a b

pub words_by_byte : (draft : Draft) (text : List ℕ) → with_pieces draft (map word text) ≡ with_words draft text
words_by_byte draft [] = ap (λ text. record { pieces = draft.pieces; words = text }) (sym (append-nil draft.words))
words_by_byte draft (b ∷ text) =
    words_by_byte (with_words draft (b ∷ [])) text
    ∙ ap (λ text. record { pieces = draft.pieces; words = text }) (append_assoc draft.words (b ∷ []) text)

-- ---- words and links

-- the first link of a text, and the words before it
pub link_put : (draft d1 d2 : Draft) (text before address after : List ℕ) → links text ≡ map word before ++ link address ∷ links after → d1 ≡ with_words draft before → d2 ≡ with_apart d1 (link address)
    → with_pieces d2 (links after) ≡ with_pieces draft (links text)
link_put draft d1 d2 text before address after found one two =
    ap (λ d. with_pieces d (links after)) (two ∙ ap (λ d. with_apart d (link address)) one)
    ∙ ap (λ d. with_pieces (with_apart d (link address)) (links after)) (sym (words_by_byte draft before))
    ∙ sym (pieces_then draft (map word before) (link address ∷ links after))
    ∙ ap (with_pieces draft) (sym found)

pub words_put : (draft d1 whole : Draft) (text : List ℕ) → links text ≡ map word text → with_pieces draft (links text) ≡ whole → d1 ≡ with_words draft text → d1 ≡ whole
words_put draft d1 whole text none all one = one ∙ sym (words_by_byte draft text) ∙ ap (with_pieces draft) (sym none) ∙ all

-- ---- words and literals, alternately

pub pair_put : (draft d1 d2 : Draft) (text before inner after : List ℕ) → by_turns (lone_parts text) ≡ links before ++ (quoted before inner after ++ by_turns (lone_parts after))
    → d1 ≡ with_pieces draft (links before) → d2 ≡ with_pieces d1 (quoted before inner after)
    → with_pieces d2 (by_turns (lone_parts after)) ≡ with_pieces draft (by_turns (lone_parts text))
pair_put draft d1 d2 text before inner after found one two =
    let rest : Line = by_turns (lone_parts after) in
    ap (λ d. with_pieces d rest) (two ∙ ap (λ d. with_pieces d (quoted before inner after)) one)
    ∙ sym (pieces_then (with_pieces draft (links before)) (quoted before inner after) rest)
    ∙ sym (pieces_then draft (links before) (quoted before inner after ++ rest))
    ∙ ap (with_pieces draft) (sym found)

pub rest_put : (draft d1 whole : Draft) (text : List ℕ) → by_turns (lone_parts text) ≡ links text → with_pieces draft (by_turns (lone_parts text)) ≡ whole → d1 ≡ with_pieces draft (links text) → d1 ≡ whole
rest_put draft d1 whole text none all one = one ∙ ap (with_pieces draft) (sym none) ∙ all

-- ---- lines that are shown as one

module _ {X : Type 0} (now : X → List ℕ) (first : List ℕ) (xs : List X) where
  abbrev pub pieces_so_far : ℕ → Line
  pieces_so_far i = line_pieces first ++ flat_map further_pieces (map now (take i xs))

  pieces_more : (i : ℕ) (d : X) → i < length xs → pieces_so_far (i + 1) ≡ pieces_so_far i ++ further_pieces (now (get_or xs i d))
  pieces_more i d h =
      let line : Line = further_pieces (now (get_or xs i d)) in
      ap (λ ys. line_pieces first ++ flat_map further_pieces (map now ys)) (take_more xs i d h)
      ∙ ap (λ ys. line_pieces first ++ flat_map further_pieces ys) (map-append now (take i xs) (get_or xs i d ∷ []))
      ∙ ap (λ ys. line_pieces first ++ ys) (flat_map-append further_pieces (map now (take i xs)) (now (get_or xs i d) ∷ []) ∙ ap (λ ys. flat_map further_pieces (map now (take i xs)) ++ ys) (append-nil line))
      ∙ sym (append_assoc (line_pieces first) (flat_map further_pieces (map now (take i xs))) line)

  -- a further line
  pub line_put : (draft d1 d2 : Draft) (i : ℕ) (d : X) → i < length xs → draft ≡ with_pieces nothing (pieces_so_far i) → d1 ≡ with_words draft (32 ∷ []) → d2 ≡ with_pieces d1 (line_pieces (now (get_or xs i d))) → d2 ≡ with_pieces nothing (pieces_so_far (i + 1))
  line_put draft d1 d2 i d h so_far one two =
      two
      ∙ ap (λ y. with_pieces y (line_pieces (now (get_or xs i d)))) (one ∙ ap (λ y. with_words y (32 ∷ [])) so_far)
      ∙ sym (pieces_then nothing (pieces_so_far i) (further_pieces (now (get_or xs i d))))
      ∙ ap (with_pieces nothing) (sym (pieces_more i d h))
