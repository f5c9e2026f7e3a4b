-- ASCII characters join nothing.
use Rattle.std.specs.Prelude.{◌≡◌, ℕ, ◌<◌, Bool, true, false, not, refl}
use Rattle.std.proofs.Common.{arith}
use Rattle.std.proofs.lemmas.Bool.Decides.{nat_tests}
use Rattle.ucd_table.proofs.Facts.{passes_below, Stepped-below}
use Rattle.ucd_table.proofs.Computing.{tables}
use Rattle.unicode.specs.Binary.{is_variation_selector}
use Rattle.unicode.proofs.BinaryLemmas.{is_variation_selector_stepped}
use Rattle.description_toml.specs.Described.Texts.{is_joiner}

kept : passes_below is_variation_selector is_variation_selector_stepped (λ c is_selector. not is_selector) 128 ≡ true
unfolding tables is_variation_selector_stepped
kept = refl

pub ascii_joins_nothing : (c : ℕ) → c < 128 → is_joiner c ≡ false
ascii_joins_nothing c low =
    let is_kept : not (is_variation_selector c) ≡ true = Stepped-below is_variation_selector is_variation_selector_stepped (λ c is_selector. not is_selector) 128 kept c low in
    grind (arith, nat_tests, is_kept)
