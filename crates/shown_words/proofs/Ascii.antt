-- ASCII characters are not unseen.
use Rattle.std.specs.Prelude.{◌≡◌, ℕ, ◌<◌, true, false, not, refl}
use Rattle.std.proofs.Common.{arith}
use Rattle.std.proofs.lemmas.Bool.Decides.{nat_tests}
use Rattle.ucd_table.proofs.Facts.{passes_below, Stepped-below}
use Rattle.ucd_table.proofs.Computing.{tables}
use Rattle.unicode.specs.Binary.{is_default_ignorable_code_point}
use Rattle.unicode.proofs.BinaryLemmas.{is_default_ignorable_code_point_stepped}
use Rattle.shown_words.specs.Hidden.{is_unseen}

kept : passes_below is_default_ignorable_code_point is_default_ignorable_code_point_stepped (λ c is_ignorable. not is_ignorable) 128 ≡ true
unfolding tables is_default_ignorable_code_point_stepped
kept = refl

pub ascii_is_seen : (c : ℕ) → c < 128 → is_unseen c ≡ false
ascii_is_seen c low =
    let is_kept : not (is_default_ignorable_code_point c) ≡ true = Stepped-below is_default_ignorable_code_point is_default_ignorable_code_point_stepped (λ c is_ignorable. not is_ignorable) 128 kept c low in
    grind (arith, nat_tests, is_kept)
