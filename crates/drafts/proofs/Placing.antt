-- The laws of drafts.
use Rattle.std.proofs.Common.{◌≡◌, ℕ, Bool, true, false, not, cond, ◌||◌, List, [], ◌∷◌, ◌++◌, refl, ap, ◌∙◌, flat_map, map}
use Rattle.std.specs.List.{list_any}
use Rattle.std.proofs.lemmas.List.{map-append}
use Rattle.help_fronts.specs.Fronts.{FrontSaid}
use Rattle.drafts.specs.Options.{key}
use Rattle.drafts.specs.Free.{Has, free_fronts, free_keys, free_name, free_names, front_keys, line_fronts, none_taken, with_key, with_keys}
use Rattle.drafts.specs.Passages.{PassageSaid}
use Rattle.drafts.specs.Places.{MarkedSaid, TakenSaid, above_with, marked, marked_from, nothing_above, nothing_taken, placed_from, taken_after}
use Rattle.drafts.specs.declared.places.Above.{Above}
use Rattle.drafts.specs.Laws.{NamesAreFree}

placed_passages : (a : Above) (ms : List MarkedSaid) → map (λ p. p.passage) (placed_from a ms) ≡ map (λ m. m.passage) ms
placed_passages a [] = refl
placed_passages a (m ∷ ms) = ap (λ ps. m.passage ∷ ps) (placed_passages (above_with m ms a) ms)

pub marked_passages : (t : TakenSaid) (ps : List PassageSaid) → map (λ m. m.passage) (marked_from t ps) ≡ ps
marked_passages t [] = refl
marked_passages t (p ∷ ps) = ap (λ qs. p ∷ qs) (marked_passages (taken_after t p) ps)

pub each_is_placed : (ps : List PassageSaid) → map (λ p. p.passage) (placed_from nothing_above (marked ps)) ≡ ps
each_is_placed ps = placed_passages nothing_above (marked ps) ∙ marked_passages nothing_taken ps

or_none : (a b c : Bool) → (a || b) ≡ false → (b ≡ false → c ≡ false) → (a || c) ≡ false
or_none true b c h more = cc
or_none false b c h more = more h

none_joined : (has : Has) (xs ys : List (List ℕ)) → list_any has xs ≡ false → list_any has ys ≡ false → list_any has (xs ++ ys) ≡ false
none_joined has [] ys h g = g
none_joined has (x ∷ xs) ys h g = or_none (has x) (list_any has xs) (list_any has (xs ++ ys)) h (λ r. none_joined has xs ys r g)

by_cases : (taken seen : Bool) (has : Has) (n : List ℕ) → has (key n) ≡ taken → list_any has (map key (cond (not (taken || seen)) (n ∷ []) [])) ≡ false
by_cases true seen has n h = refl
by_cases false true has n h = refl
by_cases false false has n h = ap (λ b. b || false) h

name_is_free : (has seen : Has) (n : List ℕ) → list_any has (map key (free_name has seen n)) ≡ false
name_is_free has seen n = by_cases (has (key n)) (seen (key n)) has n refl

names_free : (has seen : Has) (ns : List (List ℕ)) → list_any has (map key (free_names has seen ns)) ≡ false
names_free has seen [] = refl
names_free has seen (n ∷ ns) =
    ap (list_any has) (map-append key (free_name has seen n) (free_names has (with_key seen (key n)) ns))
    ∙ none_joined has (map key (free_name has seen n)) (map key (free_names has (with_key seen (key n)) ns)) (name_is_free has seen n) (names_free has (with_key seen (key n)) ns)

fronts_free : (has seen : Has) (fs : List FrontSaid) → list_any has (flat_map free_keys (free_fronts has seen fs)) ≡ false
fronts_free has seen [] = refl
fronts_free has seen (f ∷ fs) =
    let after = with_keys seen (front_keys f) in
    none_joined has (map key (free_names has seen f.names)) (flat_map free_keys (free_fronts has after fs)) (names_free has seen f.names) (fronts_free has after fs)

pub names_are_free : NamesAreFree
names_are_free has line = fronts_free has none_taken (line_fronts line)
