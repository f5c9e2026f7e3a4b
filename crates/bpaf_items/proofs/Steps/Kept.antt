-- A block's first mark, which has its place before its type is known; and a tree without a front type, which lists
-- nothing.
use Rattle.std.specs.Prelude.{◌++◌, ◌<◌, ◌∷◌, ◌≡◌}
use Rattle.bpaf_items.proofs.Words.{ℕ, suc, Bool, true, false, List, [], map, take, drop, length, refl, sym, ap, ◌∙◌, append_assoc, append-nil, arith, slice_set, Option, None, swap_remove, option_or, take-append_seam, set-append_seam, get_or-append_seam, append_cancel_left, length-set, set-append_left, take-append-drop, map-append, length-append, Part, Tree, and_of, or_of, optional, required, adjacent, item, many, subsection, suffix, skip, custom_usage, strict, Trees, no_trees, tree, HiTy, Entry, front_type, first_front_type, entries_of, entries_of_parts, IsFront, adjacent_start, adjacent_stop, group_end, group_start, note, if_typed}
use Rattle.bpaf_items.proofs.Steps.Fronts.{none_first, none_second, front_then}

mutual
  pub no_entries : (g : Bool) (t : Tree) → front_type t ≡ None → entries_of g t ≡ []
  no_entries g (and_of ts) e = no_part_entries g ts e
  no_entries g (or_of ts) e = no_part_entries g ts e
  no_entries g (optional t) e = no_entries g t e
  no_entries g (required t) e = no_entries g t e
  no_entries g (adjacent t) e = ap (λ o. if_typed o (λ k. adjacent_start t k ∷ entries_of g t ++ adjacent_stop k ∷ [])) e
  no_entries g (item l) e = cc
  no_entries g (many t) e = no_entries g t e
  no_entries true (subsection t d) e = ap (λ o. if_typed o (λ k. group_start d k ∷ entries_of false t ++ group_end k ∷ [])) e
  no_entries false (subsection t d) e = ap (λ o. if_typed o (λ k. entries_of false t)) e
  no_entries g (suffix t d) e = ap (λ o. if_typed o (λ k. entries_of g t ++ note d k ∷ [])) e
  no_entries g skip e = refl
  no_entries g (custom_usage t d) e = no_entries g t e
  no_entries g (strict t) e = no_entries g t e

  no_part_entries : (g : Bool) (ts : Trees) → first_front_type ts ≡ None → entries_of_parts g ts ≡ []
  no_part_entries g no_trees e = refl
  no_part_entries g (tree t ts) e = grind (arith, no_part_entries g ts, no_entries g t, none_first (front_type t) (first_front_type ts) e, none_second (front_type t) (first_front_type ts) e)

-- where no group is allowed
pub ungrouped : (t : Tree) (d : List Part) → entries_of false (subsection t d) ≡ entries_of false t
ungrouped t d = grind (arith, no_entries)

pub option_or-assoc : (o p q : Option HiTy) → option_or (option_or o p) q ≡ option_or o (option_or p q)
option_or-assoc o p q = grind arith

-- a turn of the loop over the parts
pub type_turn : (front own later rest all joined : Option HiTy) → joined ≡ option_or front own → rest ≡ option_or own later → option_or front rest ≡ all → option_or joined later ≡ all
type_turn front own later rest all joined e h k = ap (λ o. option_or o later) e ∙ option_or-assoc front own later ∙ ap (option_or front) (sym h) ∙ k

module _ {X : Type 0} where
  take_kept : (xs ys : List X) (p : X) → take (length xs) ((xs ++ p ∷ []) ++ ys) ≡ xs
  take_kept xs ys p = ap (take (length xs)) (append_assoc xs (p ∷ []) ys) ∙ take-append_seam xs (p ∷ ys)

  -- the entry that was appended takes the place
  pub moved_last : (xs one two : List X) (at : ℕ) (q d : X) → at < length xs → one ≡ xs ++ q ∷ [] → two ≡ swap_remove one at d → two ≡ slice_set xs at q
  moved_last xs one two at q d h e moved =
      grind (arith, length-append xs (q ∷ []), get_or-append_seam xs q, set-append_left xs (q ∷ []) at q h, length-set, take-append_seam)

  set_front : (xs : List X) (at : ℕ) (q : X) → at < length xs → IsFront (take at xs) (slice_set xs at q)
  set_front (x ∷ xs) (suc n) q h = let f = set_front xs n q (omega arith) in (f.0, ap (λ zs. x ∷ zs) f.1)
  set_front y z q h = grind arith

  pub take_front : (xs : List X) (at : ℕ) → at < length xs → IsFront (take at xs) xs
  take_front xs at h = (drop at xs, sym (take-append-drop at xs))

  pub moved_front : (xs two after : List X) (at : ℕ) (q : X) → at < length xs → two ≡ slice_set xs at q → IsFront two after → IsFront (take at xs) after
  moved_front xs two after at q h e f = front_then (take at xs) (slice_set xs at q) after (set_front xs at q h) (f.0, f.1 ∙ ap (λ ys. ys ++ f.0) e)

  pub with_last : (two three after : List X) (last : X) → two ≡ three → after ≡ two ++ last ∷ [] → after ≡ three ++ last ∷ []
  with_last two three after last e h = h ∙ ap (λ xs. xs ++ last ∷ []) e

  kept_at : (old opened now : List X) (at : ℕ) (p : X) → at ≡ length old → opened ≡ old ++ p ∷ [] → IsFront opened now → take at now ≡ old
  kept_at old opened now at p n e f = ap (λ m. take m now) n ∙ ap (take (length old)) (f.1 ∙ ap (λ xs. xs ++ f.0) e) ∙ take_kept old f.0 p

  -- the place that was kept is removed, with what stands after it
  pub away_front : (old opened now after : List X) (at : ℕ) (p : X) → at ≡ length old → opened ≡ old ++ p ∷ [] → IsFront opened now → after ≡ take at now → IsFront old after
  away_front old opened now after at p n e f h = ([], h ∙ kept_at old opened now at p n e f ∙ sym (append-nil old))

  -- or gets its mark
  pub closed_front : (old opened now after : List X) (at : ℕ) (p : X) → at ≡ length old → opened ≡ old ++ p ∷ [] → IsFront opened now → IsFront (take at now) after → IsFront old after
  closed_front old opened now after at p n e f h = (h.0, h.1 ∙ ap (λ xs. xs ++ h.0) (kept_at old opened now at p n e f))

  pub closed_entries : (view : X → Entry) (old opened now after : List X) (at : ℕ) (p q last : X) (es : List Entry) → at ≡ length old → opened ≡ old ++ p ∷ [] → IsFront opened now → map view now ≡ map view opened ++ es → after ≡ slice_set now at q ++ last ∷ []
      → map view after ≡ map view old ++ (view q ∷ es ++ view last ∷ [])
  closed_entries view old opened now after at p q last es n e f seen h =
      grind (arith, append_cancel_left, map-append, set-append_seam, append_assoc)
