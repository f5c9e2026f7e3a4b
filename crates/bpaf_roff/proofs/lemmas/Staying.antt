-- Bytes that are written as they are.
use Rattle.std.specs.List.{list_all}
use Rattle.std.proofs.Common.{inl, inr, arith, ◌≡◌, ◌⊎◌, ℕ, Bool, true, List, [], ◌∷◌, refl}
use Rattle.std.proofs.lemmas.Bool.{and_parts}
use Rattle.bpaf_roff.specs.Escaping.{byte_text}
use Rattle.bpaf_roff.specs.Steps.Output.{StayUnder, is_plain}
use Rattle.bpaf_roff.specs.declared.escape.Apostrophes.{Apostrophes}
use Rattle.bpaf_roff.specs.declared.escape.Escape.{Escape}
use Rattle.bpaf_roff.specs.declared.escape.Escape.TheVariants.{UnescapedAtNewline, Special, Unescaped}

-- each byte as it is
all_stay : (label : Escape) (test : ℕ → Bool) → ((q : Apostrophes) (before : List ℕ) (b : ℕ) → test b ≡ true → byte_text q before label b ≡ b ∷ []) → (bytes : List ℕ) → list_all test bytes ≡ true → StayUnder label bytes
all_stay label test one [] h q before = refl
all_stay label test one (b ∷ bytes) h q before = grind (arith, all_stay label test one bytes, and_parts)

plain_stays : (q : Apostrophes) (before : List ℕ) (b : ℕ) → is_plain b ≡ true → byte_text q before Special b ≡ b ∷ []
plain_stays q before b h = grind arith

pub plain_stay : (bytes : List ℕ) → list_all is_plain bytes ≡ true → StayUnder Special bytes
plain_stay bytes h = all_stay Special is_plain plain_stays bytes h

all_pass : (bytes : List ℕ) → list_all (λ b. true) bytes ≡ true
all_pass [] = refl
all_pass (b ∷ bytes) = all_pass bytes

-- under these labels each byte is written as it is
pub bare_stay : (label : Escape) → label ≡ UnescapedAtNewline ⊎ label ≡ Unescaped → (bytes : List ℕ) → StayUnder label bytes
bare_stay label (inl e) bytes = rw e (all_stay UnescapedAtNewline (λ b. true) (λ q before b h. refl) bytes (all_pass bytes))
bare_stay label (inr e) bytes = rw e (all_stay Unescaped (λ b. true) (λ q before b h. refl) bytes (all_pass bytes))
