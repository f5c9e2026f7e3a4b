-- How much of the bytes has been written.
use Rattle.std.specs.Prelude.{◌≡◌, ℕ, ◌-◌, Option, List, [], ◌∷◌, ◌++◌, length, take, drop, refl}
use Rattle.std.proofs.Common.{ap, sym, ◌∙◌, append_assoc, take-append-drop}
use Rattle.std.proofs.lemmas.List.{take_rest}
use Rattle.std.proofs.KnownBytes.{Appends-trans}
use Rattle.std.specs.Io.KnownBytes.{Appends}
use Rattle.watched.specs.Watched.{AppendsPart}

-- a write that takes n bytes of the rest leaves what stands after them
pub front_more : (bytes front rest : List ℕ) (n : ℕ) → bytes ≡ front ++ rest → bytes ≡ (front ++ take n rest) ++ take (length rest - n) (drop n rest)
front_more bytes front rest n split =
    split ∙ ap (λ l. front ++ l) (sym (take-append-drop n rest) ∙ ap (λ l. take n rest ++ l) (sym (take_rest rest n)))
    ∙ sym (append_assoc front (take n rest) (take (length rest - n) (drop n rest)))

-- all of some bytes were written, and a part of those after them
pub AppendsPart-after : (a b c : Option (List ℕ)) (front bytes : List ℕ) → Appends a b front → AppendsPart b c bytes → AppendsPart a c (front ++ bytes)
AppendsPart-after a b c front bytes written part =
    record {
      front = front ++ part.front;
      rest = part.rest;
      split = ap (λ l. front ++ l) part.split ∙ sym (append_assoc front part.front part.rest);
      missing = part.missing;
      written = Appends-trans a b c front part.front written part.written;
    }

-- a part of the bytes was written, and none of those after them
pub AppendsPart-before : (a b : Option (List ℕ)) (bytes after : List ℕ) → AppendsPart a b bytes → AppendsPart a b (bytes ++ after)
AppendsPart-before a b bytes after part =
    record {
      front = part.front;
      rest = part.rest ++ after;
      split = ap (λ l. l ++ after) part.split ∙ append_assoc part.front part.rest after;
      missing = λ none. part.missing (first_none part.rest none);
      written = part.written;
    }
  where
    first_none : (xs : List ℕ) → xs ++ after ≡ [] → xs ≡ []
    first_none [] e = refl
    first_none (x ∷ xs) e = absurd cc
