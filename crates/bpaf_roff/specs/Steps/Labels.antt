-- How a payload and its labels give pieces: each label has the place where its text ends, and a text begins where the
-- one before it ends.
use Rattle.std.specs.Prelude.{◌≡◌, ℕ, ◌+◌, ◌-◌, ◌≤◌, Bool, ◌&&◌, if◌then◌else◌, List, [], ◌∷◌, ◌++◌, length, take, drop, map}
use Rattle.std.specs.List.{AllZip}
use Rattle.std.specs.Str.{IsUtf8}
use Rattle.bpaf_roff.specs.Pieces.{Piece}
use Rattle.bpaf_roff.specs.declared.monoid.Label.{Label}

module _ {T : Type 0} where
  -- the pieces of a payload that begins at a place
  abbrev pub pieces_of : List (Label T) → ℕ → List ℕ → List (Piece T)
  pieces_of [] at payload = []
  pieces_of (l ∷ ls) at payload =
      record { label = l.label; text = take (l.end - at) payload } ∷ pieces_of ls l.end (drop (l.end - at) payload)

  -- no text ends before it begins, all of them are the whole payload, and each cut falls between characters
  abbrev pub Cuts : List (Label T) → ℕ → List ℕ → Type 0
  Cuts [] at payload = payload ≡ []
  Cuts (l ∷ ls) at payload =
      (at ≤ l.end) × (l.end - at ≤ length payload) × IsUtf8 (take (l.end - at) payload)
      × Cuts ls l.end (drop (l.end - at) payload)

  -- the labels with one appended whose text ends at a place: the last one is lengthened if squashing is on and the
  -- labels are equal
  abbrev pub followed_by : (T → T → Bool) → Bool → Label T → T → ℕ → List (Label T)
  followed_by eq squash l t end =
      if squash && eq l.label t then record l { end = end } ∷ [] else l ∷ record { end = end; label = t } ∷ []

  abbrev pub with_label : (T → T → Bool) → Bool → List (Label T) → T → ℕ → List (Label T)
  with_label eq squash [] t end = record { end = end; label = t } ∷ []
  with_label eq squash (l ∷ []) t end = followed_by eq squash l t end
  with_label eq squash (l ∷ m ∷ ls) t end = l ∷ with_label eq squash (m ∷ ls) t end

  -- the labels, the last of which ends at a place
  abbrev pub ending_at : ℕ → List (Label T) → List (Label T)
  ending_at end [] = []
  ending_at end (l ∷ []) = record l { end = end } ∷ []
  ending_at end (l ∷ m ∷ ls) = l ∷ ending_at end (m ∷ ls)

  -- the labels with each place moved on
  abbrev pub shifted : ℕ → List (Label T) → List (Label T)
  shifted by ls = map (λ (l : Label T). record l { end = by + l.end }) ls

  -- where the last text ends, or the place that they begin at
  abbrev pub end_of : ℕ → List (Label T) → ℕ
  end_of at [] = at
  end_of at (l ∷ ls) = end_of l.end ls

  -- clones of labels, place by place, with the ends of the given ones
  abbrev pub AreClones : (T → T → Type 0) → List (Label T) → List (Label T) → Type 0
  AreClones clones = AllZip (λ l m. (m.end ≡ l.end) × clones l.label m.label)

  -- clones of labels appended, moved on
  pub record EndsInClones (clones : T → T → Type 0) (labels more : List (Label T)) (by : ℕ)
      (new : List (Label T)) : Type 0 where
    pub copies : List (Label T)
    pub are_clones : AreClones clones more copies
    pub labels_then : new ≡ labels ++ shifted by copies
