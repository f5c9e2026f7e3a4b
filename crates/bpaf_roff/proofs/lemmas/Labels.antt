-- What an appended text, a sum and a cut do to the labels, and to the pieces that they show.
use Rattle.std.proofs.lemmas.Grind.{common_steps}
use Rattle.std.proofs.Common.{◌≡◌, ℕ, suc, ◌+◌, ◌-◌, ◌<◌, ◌≤◌, Bool, true, false, List, [], ◌∷◌, ◌++◌, length, take, drop, refl, ap, ◌∙◌, subst, arith, length-append, length-drop, take_all, take-append-drop}
use Rattle.std.proofs.lemmas.List.{take-append-le, drop-append-le, drop_all, length-take-le, drop-take}
use Rattle.std.proofs.Math.Seq.{take-add}
use Rattle.std.proofs.lemmas.List.Sums.{sum_by-cons}
use Rattle.std.proofs.lemmas.List.Elements.{All-nil, All-cons}
use Rattle.std.proofs.lemmas.Str.{IsUtf8-append, IsUtf8-drop, IsUtf8-nil, IsCharBoundary-from_take}
use Rattle.std.specs.Prelude.{◌&&◌, if◌then◌else◌, All, Option, Some, option_to_list}
use Rattle.std.specs.Str.{IsUtf8, IsCharBoundary}
use Rattle.bpaf_roff.specs.Pieces.{Piece, pieces_after_push, payload_len, with_text, with_texts, Labelled}
use Rattle.bpaf_roff.specs.Steps.Labels.{pieces_of, Cuts, followed_by, with_label, ending_at, shifted, end_of}
use Rattle.bpaf_roff.specs.declared.monoid.Label.{Label}

abbrev pub labelled : {T : Type 0} → Bool → List (Piece T) → Labelled T
labelled squash ps = record { pieces = ps; squash = squash }

-- what follows a text in a text is a text
pub IsUtf8-added : (p w : List ℕ) → IsUtf8 p → IsUtf8 (p ++ w) → IsUtf8 w
IsUtf8-added p w u v = grind (arith, take-append-le (length p) p w (omega arith), take_all (length p) p (omega arith), drop-append-le (length p) p w (omega arith), drop_all (length p) p (omega arith), IsCharBoundary-from_take (p ++ w) (length p) v, length-append p w, IsUtf8-drop (p ++ w) (length p) v)

-- nothing is left of a list that is as long as its front
none_left : {X : Type 0} (n : ℕ) (p : List X) → n ≤ length p → drop n p ≡ [] → n ≡ length p
none_left n p within e = let f = ap length e in omega (arith, length-drop n p)

-- places that are moved on by the same amount are as far apart
moved : (by at end : ℕ) → (by + end) - (by + at) ≡ end - at
moved by at end = omega arith

module _ {T : Type 0} where
  -- a payload that is cut is a text
  pub IsUtf8-Cuts : (ls : List (Label T)) (at : ℕ) (p : List ℕ) → Cuts ls at p → IsUtf8 p
  IsUtf8-Cuts [] at p c = rw c IsUtf8-nil
  IsUtf8-Cuts (l ∷ ls) at p c = subst IsUtf8 (take-append-drop (l.end - at) p) (IsUtf8-append (take (l.end - at) p) (drop (l.end - at) p) c.2 (IsUtf8-Cuts ls l.end (drop (l.end - at) p) c.3))

  -- the first text ends between characters
  pub first_cut : (l : Label T) (ls : List (Label T)) (at : ℕ) (p : List ℕ) → Cuts (l ∷ ls) at p → IsCharBoundary p (l.end - at)
  first_cut l ls at p c = IsCharBoundary-from_take p (l.end - at) (IsUtf8-Cuts (l ∷ ls) at p c) c.1 c.2

  pub length-pieces_of : (ls : List (Label T)) (at : ℕ) (p : List ℕ) → length (pieces_of ls at p) ≡ length ls
  length-pieces_of [] at p = refl
  length-pieces_of (l ∷ ls) at p = ap suc (length-pieces_of ls l.end (drop (l.end - at) p))

  -- the pieces have the bytes of the payload
  pub payload_len-pieces_of : (ls : List (Label T)) (at : ℕ) (p : List ℕ) → Cuts ls at p → payload_len (pieces_of ls at p) ≡ length p
  payload_len-pieces_of [] at p c = rw c refl
  payload_len-pieces_of (l ∷ ls) at p c = grind (arith, common_steps, payload_len-pieces_of ls l.end (drop (l.end - at) p) c.3, sum_by-cons, length-take-le, length-drop)

  -- every place is within the payload
  pub ends_fit : (by n : ℕ) (ls : List (Label T)) (at : ℕ) (p : List ℕ) → Cuts ls at p → by + (at + length p) < n → All (λ l. by + l.end < n) ls
  ends_fit by n [] at p c fits = All-nil (λ (l : Label T). by + l.end < n)
  ends_fit by n (l ∷ ls) at p c fits = grind (arith, All-cons, ends_fit by n ls l.end (drop (l.end - at) p) c.3, length-drop)

  -- two payloads, one after another
  pub pieces_of-append : (ls ms : List (Label T)) (at next : ℕ) (p q : List ℕ) → Cuts ls at p → next ≡ at + length p → pieces_of (ls ++ ms) at (p ++ q) ≡ pieces_of ls at p ++ pieces_of ms next q
  pieces_of-append [] ms at next p q c e = let f : next ≡ at = omega (arith, ap length c) in rw (c, f) refl
  pieces_of-append (l ∷ ls) ms at next p q c e = grind (arith, take-append-le, drop-append-le, length-drop, pieces_of-append ls ms l.end next (drop (l.end - at) p) q c.3)

  pub Cuts-append : (ls ms : List (Label T)) (at next : ℕ) (p q : List ℕ) → Cuts ls at p → next ≡ at + length p → Cuts ms next q → Cuts (ls ++ ms) at (p ++ q)
  Cuts-append [] ms at next p q c e d = let f : next ≡ at = omega (arith, ap length c) in rw c (rw f at d)
  Cuts-append (l ∷ ls) ms at next p q c e d = grind (arith, length-append, take-append-le, drop-append-le, length-drop, Cuts-append ls ms l.end next (drop (l.end - at) p) q c.3)

  -- and show the same pieces
  pub pieces_of-shifted : (by : ℕ) (ls : List (Label T)) (at : ℕ) (p : List ℕ) → pieces_of (shifted by ls) (by + at) p ≡ pieces_of ls at p
  pieces_of-shifted by [] at p = refl
  pieces_of-shifted by (l ∷ ls) at p = grind (arith, moved, (pieces_of-shifted by ls l.end (drop (l.end - at) p)))

  pub Cuts-shifted : (by : ℕ) (ls : List (Label T)) (at : ℕ) (p : List ℕ) → Cuts ls at p → Cuts (shifted by ls) (by + at) p
  Cuts-shifted by [] at p c = c
  Cuts-shifted by (l ∷ ls) at p c = grind (arith, moved, (Cuts-shifted by ls l.end (drop (l.end - at) p) c.3))

  pub ending_at-push : (e : ℕ) (ls : List (Label T)) (l : Label T) → ending_at e (ls ++ l ∷ []) ≡ ls ++ record l { end = e } ∷ []
  ending_at-push e (k ∷ m ∷ ls) l = ap (λ xs. k ∷ xs) (ending_at-push e (m ∷ ls) l)
  ending_at-push e x l = grind arith

  -- where the labels end there already, nothing changes
  pub ending_at-same : (ls : List (Label T)) (at : ℕ) (p : List ℕ) (e : ℕ) → Cuts ls at p → e ≡ at + length p → ending_at e ls ≡ ls
  ending_at-same (l ∷ m ∷ ls) at p e c is = grind (arith, length-drop, ending_at-same (m ∷ ls) l.end (drop (l.end - at) p) e c.3)
  ending_at-same x at p e c is = grind (arith, none_left)

-- the front of a longer front
take_front : {X : Type 0} (n m : ℕ) (p : List X) → n ≤ length p → take n (take (n + m) p) ≡ take n p
take_front n m p within = rw (take-add n m p) (take-append-le n (take n p) (take m (drop n p)) (omega (arith, length-take-le n p within)) ∙ take_all n (take n p) (omega (arith, length-take-le n p within)))

module _ {T : Type 0} where
  pub end_of-push : (at : ℕ) (ls : List (Label T)) (l : Label T) → end_of at (ls ++ l ∷ []) ≡ l.end
  end_of-push at [] l = refl
  end_of-push at (k ∷ ls) l = end_of-push k.end ls l

  -- the first labels end within the payload
  pub end_of-take : (k : ℕ) (ls : List (Label T)) (at : ℕ) (p : List ℕ) → Cuts ls at p → (at ≤ end_of at (take k ls)) × (end_of at (take k ls) ≤ at + length p)
  end_of-take (suc k) (l ∷ ls) at p c = grind (arith, end_of-take k ls l.end (drop (l.end - at) p) c.3, length-drop)
  end_of-take x y at p c = grind arith

  -- how far they reach, by the first one and the others
  reach : (k : ℕ) (l : Label T) (ls : List (Label T)) (at : ℕ) (p : List ℕ) → Cuts (l ∷ ls) at p → end_of l.end (take k ls) - at ≡ (l.end - at) + (end_of l.end (take k ls) - l.end)
  reach k l ls at p c = omega (arith, c.0, (end_of-take k ls l.end (drop (l.end - at) p) c.3).0)

  pub pieces_of-take : (k : ℕ) (ls : List (Label T)) (at : ℕ) (p : List ℕ) → Cuts ls at p → pieces_of (take k ls) at (take (end_of at (take k ls) - at) p) ≡ take k (pieces_of ls at p)
  pieces_of-take (suc k) (l ∷ ls) at p c = grind (arith, pieces_of-take k ls l.end, reach, take_front, drop-take)
  pieces_of-take x y at p c = grind arith

  pub Cuts-take : (k : ℕ) (ls : List (Label T)) (at : ℕ) (p : List ℕ) → Cuts ls at p → Cuts (take k ls) at (take (end_of at (take k ls) - at) p)
  Cuts-take (suc k) (l ∷ ls) at p c = grind (arith, Cuts-take k ls l.end, end_of-take k ls l.end, reach k l ls at p c, take_front, drop-take, length-take-le, length-drop)
  Cuts-take x y at p c = grind arith

  -- they end between characters
  pub cut_at : (k : ℕ) (ls : List (Label T)) (p : List ℕ) → Cuts ls 0 p → IsCharBoundary p (end_of 0 (take k ls))
  cut_at k ls p c = grind (arith, IsCharBoundary-from_take p, IsUtf8-Cuts ls 0 p c, end_of-take k ls 0 p c, IsUtf8-Cuts (take k ls) 0, Cuts-take k ls 0 p c)

module _ {T : Type 0} (eq : T → T → Bool) (squash : Bool) (t : T) where
  pub with_label-push : (ls : List (Label T)) (l : Label T) (e : ℕ) → with_label eq squash (ls ++ l ∷ []) t e ≡ ls ++ followed_by eq squash l t e
  with_label-push (k ∷ m ∷ ls) l e = ap (λ xs. k ∷ xs) (with_label-push (m ∷ ls) l e)
  with_label-push x l e = grind arith

  -- the last label was removed, and what follows it is appended
  pub with_label-popped : (ls others : List (Label T)) (o : Option (Label T)) (l : Label T) (e : ℕ) → ls ≡ others ++ option_to_list o → o ≡ Some l → with_label eq squash ls t e ≡ others ++ followed_by eq squash l t e
  with_label-popped ls others o l e was is = rw (was, is) (with_label-push others l e)

  pub followed_by-other : (l : Label T) (e : ℕ) → (squash && eq l.label t) ≡ false → followed_by eq squash l t e ≡ l ∷ record { end = e; label = t } ∷ []
  followed_by-other l e other = ap (λ b. if b then record l { end = e } ∷ [] else l ∷ record { end = e; label = t } ∷ []) other

  module _ (w : List ℕ) where
    -- the last piece is the rest of the payload
    rest_of : (at e : ℕ) (p : List ℕ) → p ≡ [] → e ≡ at + length p + length w → take (e - at) (p ++ w) ≡ w
    rest_of at e p none is = rw none (take_all (e - at) w (omega (arith, ap length none)))

    followed_text : (at : ℕ) (p : List ℕ) (l : Label T) (e : ℕ) → Cuts (l ∷ []) at p → e ≡ at + length p + length w → take (e - at) (p ++ w) ≡ take (l.end - at) p ++ w
    followed_text at p l e c is = grind (arith, take_all, none_left, length-append)

    pieces_followed : (b : Bool) (l : Label T) (at : ℕ) (p : List ℕ) (e : ℕ) → Cuts (l ∷ []) at p → e ≡ at + length p + length w
        → pieces_of (if b then record l { end = e } ∷ [] else l ∷ record { end = e; label = t } ∷ []) at (p ++ w)
        ≡ (if b then record { label = l.label; text = take (l.end - at) p ++ w } ∷ [] else record { label = l.label; text = take (l.end - at) p } ∷ record { label = t; text = w } ∷ [])
    pieces_followed b l at p e h5 h6 = grind (arith, followed_text, none_left, take-append-le, drop-append-le, rest_of)

    pub pieces_of-with_label : (ls : List (Label T)) (at : ℕ) (p : List ℕ) (e : ℕ) → Cuts ls at p → e ≡ at + length p + length w → pieces_of (with_label eq squash ls t e) at (p ++ w) ≡ pieces_after_push eq squash (pieces_of ls at p) t w
    pieces_of-with_label (l ∷ m ∷ ls) at p e c is = grind (arith, take-append-le, drop-append-le, length-drop, pieces_of-with_label (m ∷ ls) l.end (drop (l.end - at) p) e c.3)
    pieces_of-with_label x at p e c is = grind (arith, rest_of, pieces_followed)

    Cuts_alone : (at e : ℕ) (p : List ℕ) → IsUtf8 w → p ≡ [] → e ≡ at + length p + length w → Cuts (record { end = e; label = t } ∷ []) at (p ++ w)
    Cuts_alone at e p u none is = grind (arith, length-append, rest_of, drop_all)

    Cuts_followed : (b : Bool) (l : Label T) (at : ℕ) (p : List ℕ) (e : ℕ) → IsUtf8 w → Cuts (l ∷ []) at p → e ≡ at + length p + length w → Cuts (if b then record l { end = e } ∷ [] else l ∷ record { end = e; label = t } ∷ []) at (p ++ w)
    Cuts_followed true l at p e u c is = grind (arith, length-append p w, followed_text at p l e c is, IsUtf8-append (take (l.end - at) p) w c.2 u, drop_all (e - at) (p ++ w))
    Cuts_followed false l at p e u c is = grind (arith, length-append p w, take-append-le (l.end - at) p w c.1, drop-append-le (l.end - at) p w c.1, Cuts_alone l.end e (drop (l.end - at) p) u c.3, none_left (l.end - at) p c.1 c.3)

    pub Cuts-with_label : IsUtf8 w → (ls : List (Label T)) (at : ℕ) (p : List ℕ) (e : ℕ) → Cuts ls at p → e ≡ at + length p + length w → Cuts (with_label eq squash ls t e) at (p ++ w)
    Cuts-with_label u [] at p e c is = Cuts_alone at e p u c is
    Cuts-with_label u (l ∷ []) at p e c is = Cuts_followed (squash && eq l.label t) l at p e u c is
    Cuts-with_label u (l ∷ m ∷ ls) at p e c is = grind (arith, length-append, take-append-le, drop-append-le, length-drop, Cuts-with_label u (m ∷ ls) l.end (drop (l.end - at) p) e c.3)

    pub labelled-with_label : (ls : List (Label T)) (p : List ℕ) (e : ℕ) → Cuts ls 0 p → e ≡ length p + length w → labelled squash (pieces_of (with_label eq squash ls t e) 0 (p ++ w)) ≡ with_text eq (labelled squash (pieces_of ls 0 p)) t w
    labelled-with_label ls p e c is = ap (labelled squash) (pieces_of-with_label ls 0 p e c (omega arith))

module _ {T : Type 0} (eq : T → T → Bool) (squash : Bool) (t : T) (end e : ℕ) where
  past : (l : Label T) (xs ys : List (Label T)) → ending_at e xs ≡ ending_at e ys → ending_at e (l ∷ xs) ≡ ending_at e (l ∷ ys)
  past l xs ys h3 = grind arith

  -- a label put past the first k is cut off again
  pub ending_at-with_label : (k : ℕ) (ls : List (Label T)) → k ≤ length ls → ending_at e (take k (with_label eq squash ls t end)) ≡ ending_at e (take k ls)
  ending_at-with_label (suc (suc k)) (l ∷ m ∷ ls) within = grind (arith, past, ending_at-with_label (suc k) (m ∷ ls))
  ending_at-with_label x y within = grind arith

  pub length-with_label : (ls : List (Label T)) → length ls ≤ length (with_label eq squash ls t end)
  length-with_label (l ∷ m ∷ ls) = omega (arith, length-with_label (m ∷ ls))
  length-with_label x = grind arith

-- one more text
pub with_texts-push : {T : Type 0} (eq : T → T → Bool) (m : Labelled T) (xs : List (T × List ℕ)) (x : T × List ℕ) → with_texts eq m (xs ++ x ∷ []) ≡ with_text eq (with_texts eq m xs) x.0 x.1
with_texts-push eq m [] x = refl
with_texts-push eq m (y ∷ xs) x = with_texts-push eq (with_text eq m y.0 y.1) xs x

pub ruleset labels_lemmas = (end_of-push, ending_at-push, with_label-push, length-pieces_of, payload_len-pieces_of)

pub ruleset append_lemmas = (labelled-with_label, Cuts-with_label)
