-- The values that are written, one after another.
use Rattle.std.proofs.Common.{◌≡◌, ℕ, ◌==◌, ◌&&◌, Bool, true, false, List, [], ◌∷◌, drop, cond, refl, ap}
use Rattle.std.specs.List.{list_any}
use Rattle.description.specs.Values.{begins_blank, cut, listed_values, on_first}
use Rattle.json_of_descriptions.specs.Listed.{is_empty, written_values}

pub written_whole : (text : List ℕ) → list_any is_empty (listed_values text) ≡ true → written_values text ≡ text ∷ []
unfolding written_values
written_whole text h = ap (λ t. cond t (text ∷ []) (listed_values text)) h

pub written_listed : (text : List ℕ) → list_any is_empty (listed_values text) ≡ false → written_values text ≡ listed_values text
unfolding written_values
written_listed text h = ap (λ t. cond t (text ∷ []) (listed_values text)) h

abbrev Some_words : List (List ℕ) → Type 0
Some_words words = (w : List ℕ) × (ws : List (List ℕ)) × (words ≡ w ∷ ws)

listed_some_values : (bs : List ℕ) → Some_words (listed_values bs)
unfolding listed_values
listed_some_values [] = ([], [], refl)
listed_some_values (b ∷ bs) = let more = listed_some_values bs in by (b == 44 && begins_blank bs) (listed_values bs) more.0 more.1 more.2 where
  by : (t : Bool) (words : List (List ℕ)) (w : List ℕ) (ws : List (List ℕ)) → words ≡ w ∷ ws → Some_words (cut t b words)
  by true words w ws is = ([], on_first (drop 1) words, refl)
  by false words w ws is = (b ∷ w, ws, ap (on_first (λ u. b ∷ u)) is)

pub written_some : (text : List ℕ) → Some_words (written_values text)
unfolding written_values
written_some text = by (list_any is_empty (listed_values text)) where
  by : (t : Bool) → Some_words (cond t (text ∷ []) (listed_values text))
  by true = (text, [], refl)
  by false = listed_some_values text
