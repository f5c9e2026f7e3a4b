-- A text that is written in runs, with what stands for a byte between two of them.
use Rattle.std.proofs.Common.{◌≡◌, ℕ, ◌+◌, ◌-◌, ◌<◌, ◌≤◌, List, [], ◌∷◌, ◌++◌, length, append_assoc, append-nil, get_or, arith, take, drop, length-drop}
use Rattle.std.specs.Prelude.{flat_map}
use Rattle.std.proofs.lemmas.List.{get_or-drop, take_more}
use Rattle.std.proofs.lemmas.List.Concat.{flat_map-append}

-- what stands for a text and its next byte
text_more : (f : ℕ → List ℕ) (text : List ℕ) (at : ℕ) → at < length text → flat_map f (take (at + 1) text) ≡ flat_map f (take at text) ++ f (get_or text at 0)
text_more f text at h = grind (arith, take_more text at 0 h, flat_map-append f (take at text) (get_or text at 0 ∷ []), append-nil (f (get_or text at 0)))

-- the next byte of what lies after a place
run_more : (text : List ℕ) (start at : ℕ) → start ≤ at → at < length text → take (at + 1 - start) (drop start text) ≡ take (at - start) (drop start text) ++ get_or text at 0 ∷ []
run_more text start at le h = grind (arith, length-drop start text, take_more (drop start text) (at - start) 0, get_or-drop start text (at - start) 0)

-- a step over a byte that stands for itself
pub plain_next : (f : ℕ → List ℕ) (text out first : List ℕ) (start at : ℕ) → start ≤ at → at < length text → f (get_or text at 0) ≡ get_or text at 0 ∷ [] → out ++ take (at - start) (drop start text) ≡ first ++ flat_map f (take at text) → out ++ take (at + 1 - start) (drop start text) ≡ first ++ flat_map f (take (at + 1) text)
plain_next f text out first start at le h e w = grind (arith, run_more text start at le h, append_assoc out (take (at - start) (drop start text)) (get_or text at 0 ∷ []), append_assoc first (flat_map f (take at text)) (get_or text at 0 ∷ []), text_more f text at h)

-- a step over one that something else stands for
pub named_next : (f : ℕ → List ℕ) (text out first more new name : List ℕ) (start at : ℕ) → at < length text → f (get_or text at 0) ≡ name → more ≡ out ++ take (at - start) (drop start text) → new ≡ more ++ name → out ++ take (at - start) (drop start text) ≡ first ++ flat_map f (take at text) → new ++ take (at + 1 - (at + 1)) (drop (at + 1) text) ≡ first ++ flat_map f (take (at + 1) text)
named_next f text out first more new name start at h e m n w = grind (arith, append-nil new, append_assoc first (flat_map f (take at text)) name, text_more f text at h)
