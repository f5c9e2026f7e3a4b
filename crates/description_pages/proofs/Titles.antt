-- Titles and names of levels.
use Rattle.std.proofs.Common.{◌≡◌, ◌≢◌, ℕ, List, [], ◌∷◌, ◌++◌, map, flat_map, refl, sym, ap, ◌∙◌, if◌then◌else◌}
use Rattle.std.specs.List.{join_by}
use Rattle.std.proofs.lemmas.Bool.{eq-eqb, ne_eqb}
use Rattle.description_pages.specs.Sections.{joined_names, without_last}

last_dropped : (last : ℕ) (text : List ℕ) → without_last last (text ++ last ∷ []) ≡ text
last_dropped last [] = ap (λ is. if is then [] else last ∷ []) (eq-eqb last last refl)
last_dropped last (b ∷ []) = ap (λ t. b ∷ t) (last_dropped last [])
last_dropped last (b ∷ c ∷ text) = ap (λ t. b ∷ t) (last_dropped last (c ∷ text))

pub last_left : (last : ℕ) (whole text : List ℕ) → whole ≡ text ++ last ∷ [] → text ≡ without_last last whole
last_left last whole text e = sym (ap (without_last last) e ∙ last_dropped last text)

pub no_last : (last : ℕ) (text : List ℕ) → ((front : List ℕ) → text ≢ front ++ last ∷ []) → without_last last text ≡ text
no_last last [] h = refl
no_last last (b ∷ []) h = ap (λ is. if is then [] else b ∷ []) (ne_eqb b last (λ e. h [] (ap (λ c. c ∷ []) e)))
no_last last (b ∷ c ∷ text) h = ap (λ t. b ∷ t) (no_last last (c ∷ text) (λ front e. h (b ∷ front) (ap (λ t. b ∷ t) e)))

-- names by what they are seen as
after_seen : {X : Type 0} (see : X → List ℕ) (between : List ℕ) (xs : List X) → flat_map (λ x. between ++ see x) xs ≡ flat_map (λ name. between ++ name) (map see xs)
after_seen see between [] = refl
after_seen see between (x ∷ xs) = ap (λ rest. (between ++ see x) ++ rest) (after_seen see between xs)

pub joined_seen : {X : Type 0} (see : X → List ℕ) (between : List ℕ) (xs : List X) → join_by see between xs ≡ joined_names between (map see xs)
joined_seen see between [] = refl
joined_seen see between (x ∷ xs) = ap (λ rest. see x ++ rest) (after_seen see between xs)
