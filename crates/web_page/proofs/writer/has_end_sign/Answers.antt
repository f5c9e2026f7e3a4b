use Rattle.std.proofs.Common.{◌≡◌, ℕ, ◌<◌, false, List, [], ◌∷◌, length, refl, sym, ◌∙◌, arith}
use Rattle.web_page.specs.Calls.{has_end_sign}
use Rattle.web_page.proofs.writer.has_end_sign.Goals as goal

short : (bytes : List ℕ) → length bytes < 2 → has_end_sign bytes ≡ false
short [] h = refl
short (b ∷ []) h = refl
short (b ∷ c ∷ bytes) h = absurd (omega arith)

pub returns : goal.returns
returns c = sym (short c.loop-rest.rest.now c.in_default.len_below) ∙ c.loop-rest.invariant
