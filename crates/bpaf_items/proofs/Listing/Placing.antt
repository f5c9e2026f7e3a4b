-- Entries with those before them, one entry after another.
use Rattle.std.specs.Prelude.{if◌then◌else◌, ◌++◌, ◌∷◌, ◌≡◌}
use Rattle.bpaf_items.proofs.Words.{Bool, not, List, [], map, refl, sym, ap, ◌∙◌, append_assoc, append-nil, arith, filter, map-append, filter-append, Entry, Placed, placed, placed_after, is_in_group, outside_groups}

-- two lists: the second stands after the first
pub placed_after-append : (before es fs : List Entry) → placed_after before (es ++ fs) ≡ placed_after before es ++ placed_after (before ++ es) fs
placed_after-append before [] fs = ap (λ b. placed_after b fs) (sym (append-nil before))
placed_after-append before (e ∷ es) fs = grind (arith, placed_after-append (before ++ e ∷ []) es fs, append_assoc)

-- one more entry stands with all the others before it
pub placed-push : (es : List Entry) (e : Entry) → placed (es ++ e ∷ []) ≡ placed es ++ (es, e) ∷ []
placed-push es e = placed_after-append [] es (e ∷ [])

-- the entries themselves
pub placed_entries : (before es : List Entry) → map (λ p. p.1) (placed_after before es) ≡ es
placed_entries before [] = refl
placed_entries before (e ∷ es) = ap (λ fs. e ∷ fs) (placed_entries (before ++ e ∷ []) es)

-- the entries of the places that pass a test
abbrev pub entry : Placed → Entry
entry p = p.1

pub chosen-append : (q : Placed → Bool) (before es fs : List Entry) → map entry (filter q (placed_after before (es ++ fs))) ≡ map entry (filter q (placed_after before es)) ++ map entry (filter q (placed_after (before ++ es) fs))
chosen-append q before es fs = rw (placed_after-append, filter-append, map-append) refl

-- at two places that both pass, or both fail
pub two_kept : (a b : Bool) (e : Entry) (before other : List Entry) (ps qs : List Placed) → a ≡ b → map entry ps ≡ map entry qs → map entry (if a then (before, e) ∷ ps else ps) ≡ map entry (if b then (other, e) ∷ qs else qs)
two_kept a b e before other ps qs h7 h8 = grind arith

pub kept_map : (b : Bool) (p : Placed) → map (λ q. q.1) (if b then p ∷ [] else []) ≡ (if b then p.1 ∷ [] else [])
kept_map b p = grind arith

pub outside_groups-push : (es : List Entry) (e : Entry) → outside_groups (es ++ e ∷ []) ≡ outside_groups es ++ (if not (is_in_group (es, e)) then e ∷ [] else [])
outside_groups-push es e = chosen-append (λ p. not (is_in_group p)) [] es (e ∷ []) ∙ ap (λ xs. outside_groups es ++ xs) (kept_map (not (is_in_group (es, e))) (es, e))
