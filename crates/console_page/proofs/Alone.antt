-- A text without newlines and tabs is shown as it stands.
use Rattle.std.proofs.Common.{◌≡◌, ℕ, true, List, [], ◌∷◌, ◌++◌, refl, ap₂, arith}
use Rattle.std.specs.List.{list_all}
use Rattle.std.proofs.lemmas.Bool.{and_parts}
use Rattle.console_page.specs.Steps.{stands_alone}
use Rattle.console_page.specs.Texts.{shown, shown_byte}
use Rattle.console_page.specs.declared.texts.Role.TheVariants.{Text}

byte_alone : (b : ℕ) → stands_alone b ≡ true → shown_byte Text b ≡ b ∷ []
byte_alone b h = grind arith

pub shown_alone : (text : List ℕ) → list_all stands_alone text ≡ true → shown Text text ≡ text
shown_alone [] h = refl
shown_alone (b ∷ text) h = let both = and_parts (stands_alone b) (list_all stands_alone text) h in ap₂ (λ x y. x ++ y) (byte_alone b both.0) (shown_alone text both.1)
