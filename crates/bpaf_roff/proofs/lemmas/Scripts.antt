-- What appended pieces do to a script.
use Rattle.std.proofs.Common.{◌≡◌, Bool, false, List, ℕ, [], ◌∷◌, ◌++◌, map, ap, refl, arith, append_assoc}
use Rattle.std.proofs.lemmas.Iterator.{items_from_drains}
use Rattle.std.proofs.lemmas.Iterator.Consumers.{YieldsList-from_first}
use Rattle.std.specs.Borrow.{Bor}
use Rattle.std.specs.Iterator.{Drains, YieldsFirstBy}
use Rattle.bpaf_roff.specs.Pieces.{Piece, Labelled, pieces_after_push, with_text, piece_at}
use Rattle.bpaf_roff.specs.Roff.{Script, with_pieces, piece, scripts_sum, script_sum}
use Rattle.bpaf_roff.specs.Steps.Output.{OnlyAdds}
use Rattle.bpaf_roff.specs.declared.escape.Escape.{Escape}
use Rattle.bpaf_roff.proofs.lemmas.Fronts.{KeepsFront-later}

-- what a monoid shows as a script
abbrev pub script_of : Labelled Escape → Bool → Script
script_of m strip = record { pieces = m.pieces; strip_newlines = strip }

-- with squashing off each text is a piece of its own
apart : {L : Type 0} (eq : L → L → Bool) (ps : List (Piece L)) (label : L) (text : List ℕ) → pieces_after_push eq false ps label text ≡ ps ++ record { label = label; text = text } ∷ []
apart eq (p ∷ r ∷ ps) label text = ap (λ xs. p ∷ xs) (apart eq (r ∷ ps) label text)
apart eq x label text = grind arith

pub script_of-with_text : (eq : Escape → Escape → Bool) (m : Labelled Escape) (strip : Bool) (label : Escape) (text : List ℕ) → m.squash ≡ false → script_of (with_text eq m label text) strip ≡ with_pieces (script_of m strip) (piece label text ∷ [])
script_of-with_text eq m strip label text off = rw off (ap (λ ps. record { pieces = ps; strip_newlines = strip }) (apart eq m.pieces label text))

pub with_pieces-with_pieces : (s : Script) (ps qs : List (Piece Escape)) → with_pieces (with_pieces s ps) qs ≡ with_pieces s (ps ++ qs)
with_pieces-with_pieces s ps qs = ap (λ rs. record s { pieces = rs }) (append_assoc s.pieces ps qs)

pub only_adds_later : (old now new : Script) (more : List (Piece Escape)) → now ≡ with_pieces old more → OnlyAdds now new → OnlyAdds old new
only_adds_later old now new more is later = grind (arith, KeepsFront-later)

-- one more in a sum
pub scripts_sum-push : (s : Script) (others : List Script) (more : Script) → scripts_sum s (others ++ more ∷ []) ≡ script_sum (scripts_sum s others) more
scripts_sum-push s [] more = refl
scripts_sum-push s (other ∷ others) more = scripts_sum-push (script_sum s other) others more

-- the pieces that an iterator over them gives
pub drained : (ps : List (Piece Escape)) (xs : List (Bor Escape × Bor (List ℕ))) → Drains (YieldsFirstBy piece_at (λ left. left)) ps xs → map piece_at xs ≡ ps
drained ps xs run = items_from_drains xs (run.1.0, run.1.1, λ _. (run.0, run.1.2)) (YieldsList-from_first piece_at (λ left. left) ps refl)

pub ruleset script_lemmas = (with_pieces-with_pieces, only_adds_later)
