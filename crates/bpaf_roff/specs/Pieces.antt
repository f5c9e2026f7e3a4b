-- Texts under labels.
use Rattle.std.specs.Borrow.{Bor}
use Rattle.std.specs.List.{AllZip}
use Rattle.std.specs.Prelude.{◌≡◌, ℕ, Bool, false, List, [], ◌∷◌, ◌++◌, ◌&&◌, sum_by, length, if◌then◌else◌}

-- a text by its bytes, under a label
pub record Piece (L : Type 0) : Type 0 where
  pub label : L
  pub text : List ℕ

-- the pieces with a text appended: to the last piece if squashing is on and the labels are equal, else as a piece of
-- its own
-- e.g. pieces_after_push nat_eq true (record { label = 7; text = codes "a" } ∷ []) 7 (codes "b")
--     ≡ record { label = 7; text = codes "ab" } ∷ []
abbrev pub pieces_after_push : {L : Type 0} → (L → L → Bool) → Bool → List (Piece L) → L → List ℕ → List (Piece L)
pieces_after_push eq squash [] label text = record { label = label; text = text } ∷ []
pieces_after_push eq squash (last ∷ []) label text =
    if squash && eq last.label label then record last { text = last.text ++ text } ∷ []
    else last ∷ record { label = label; text = text } ∷ []
pieces_after_push eq squash (first ∷ second ∷ rest) label text =
    first ∷ pieces_after_push eq squash (second ∷ rest) label text

-- what a monoid holds: its pieces in order, and whether a text under the last label goes into the last piece
pub record Labelled (L : Type 0) : Type 0 where
  pub pieces : List (Piece L)
  pub squash : Bool

-- no pieces, with squashing off
abbrev pub no_pieces : {L : Type 0} → Labelled L
no_pieces = record { pieces = []; squash = false }

-- with a text appended
abbrev pub with_text : {L : Type 0} → (L → L → Bool) → Labelled L → L → List ℕ → Labelled L
with_text eq m label text = record m { pieces = pieces_after_push eq m.squash m.pieces label text }

-- with texts appended, in order
abbrev pub with_texts : {L : Type 0} → (L → L → Bool) → Labelled L → List (L × List ℕ) → Labelled L
with_texts eq m [] = m
with_texts eq m (item ∷ items) = with_texts eq (with_text eq m item.0 item.1) items

-- the right pieces after the left ones, under the left setting
abbrev pub sum_of : {L : Type 0} → Labelled L → Labelled L → Labelled L
sum_of left right = record left { pieces = left.pieces ++ right.pieces }

-- the same text under a clone of its label
abbrev pub IsCopyOf : {L : Type 0} → (L → L → Type 0) → Piece L → Piece L → Type 0
IsCopyOf clones given copy = (copy.text ≡ given.text) × clones given.label copy.label

-- as many pieces, each a copy of the one in its place
abbrev pub AreCopies : {L : Type 0} → (L → L → Type 0) → List (Piece L) → List (Piece L) → Type 0
AreCopies clones = AllZip (IsCopyOf clones)

-- copies of the right pieces after the left ones, under the left setting
pub record IsSumOf {L : Type 0} (clones : L → L → Type 0) (left right sum : Labelled L) : Type 0 where
  pub copies : List (Piece L)
  pub are_copies : AreCopies clones right.pieces copies
  pub is_sum : sum ≡ record left { pieces = left.pieces ++ copies }

-- a clone is the same value as what it is a clone of
abbrev pub ClonesAreSame : {L : Type 0} → (L → L → Type 0) → Type 0
ClonesAreSame {L} clones = (x y : L) → clones x y → y ≡ x

-- how many bytes all texts have
abbrev pub payload_len : {L : Type 0} → List (Piece L) → ℕ
payload_len {L} pieces = sum_by (λ (p : Piece L). length p.text) pieces

-- a label and a text, as an iterator gives them
abbrev pub labelled_text : {L : Type 0} → L × Bor (List ℕ) → L × List ℕ
labelled_text item = (item.0, item.1.now)

-- a piece, from its two references
abbrev pub piece_at : {L : Type 0} → Bor L × Bor (List ℕ) → Piece L
piece_at item = record { label = item.0.now; text = item.1.now }
