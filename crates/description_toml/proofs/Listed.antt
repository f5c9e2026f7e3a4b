-- Values in one text.
use Rattle.std.proofs.Common.{◌≡◌, ℕ, List, [], ◌∷◌, ◌++◌, map, flat_map, codes, refl, ap, Option, Some, Result, arith}
use Rattle.std.specs.Prelude.{option_and_then}
use Rattle.std.specs.List.{join_by}
use Rattle.description_toml.specs.Described.Texts.{if_passes, is_value}
use Rattle.description_toml.specs.Described.Values.{listed_texts}
use Rattle.description_toml.specs.Faults.{Reads}
use Rattle.description_toml.specs.declared.decode.teller.Refused.{Refused}

flat_listed : {X : Type 0} (bytes : X → List ℕ) (xs : List X) → flat_map (λ x. codes ", " ++ bytes x) xs ≡ flat_map (λ text. codes ", " ++ text) (map bytes xs)
flat_listed bytes [] = refl
flat_listed bytes (x ∷ xs) = ap (λ rest. (codes ", " ++ bytes x) ++ rest) (flat_listed bytes xs)

pub listed : {X : Type 0} (bytes : X → List ℕ) (xs : List X) → join_by bytes (codes ", ") xs ≡ listed_texts (map bytes xs)
listed bytes [] = refl
listed bytes (x ∷ xs) = ap (λ rest. bytes x ++ rest) (flat_listed bytes xs)

pub same_read : {T : Type 0} (said : T → List ℕ) (a b : List ℕ) (r : Result T Refused) → a ≡ b → Reads (Some a) said r → Reads (Some b) said r
same_read said a b r h e = grind arith

-- the values that were read, as one text
pub values_read : {T : Type 0} (said : T → List ℕ) (there : Option (List (List ℕ))) (words listed : List (List ℕ)) (text : List ℕ) (r : Result T Refused) → there ≡ Some words → listed ≡ words → Some (listed_texts listed) ≡ Some text → Reads (if_passes is_value text) said r
    → Reads (option_and_then (λ values. if_passes is_value (listed_texts values)) there) said r
values_read said there words listed text r h same e k = grind arith
