-- The first Section4 end of what follows a place, found by looking at one part after another.
use Rattle.std.specs.Prelude.{◌+◌, ◌<◌, ◌∷◌, ◌≡◌}
use Rattle.bpaf_doc.proofs.lemmas.Console.Words.{common_steps, arith, ℕ, zero, suc, true, false, List, [], refl, length, drop, Part, is_end_of, is_section4}
use Rattle.std.specs.List.{slice_get, position_or_len}
use Rattle.std.specs.Option.{option_map_or}

-- how many parts stand before it
abbrev pub first_end : List Part → ℕ
first_end parts = position_or_len (is_end_of is_section4) parts

pub first_end-here : (parts : List Part) (at : ℕ) → option_map_or (is_end_of is_section4) (slice_get parts at) false ≡ true → first_end (drop at parts) ≡ 0
first_end-here (p ∷ parts) (suc at) e = first_end-here parts at e
first_end-here x y e = grind arith

pub first_end-later : (parts : List Part) (at : ℕ) → at < length parts → option_map_or (is_end_of is_section4) (slice_get parts at) false ≡ false
    → first_end (drop at parts) ≡ 1 + first_end (drop (at + 1) parts)
first_end-later [] at within e = absurd (omega arith)
first_end-later (p ∷ parts) zero within e = rw e refl
first_end-later (p ∷ parts) (suc at) within e = grind (arith, common_steps, first_end-later parts at (omega arith) e)

pub ruleset first_ends = (first_end-here, first_end-later)
