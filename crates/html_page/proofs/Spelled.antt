-- Bytes that stand for themselves in an id.
use Rattle.std.proofs.Common.{◌≡◌, ℕ, true, List, [], ◌∷◌, refl, arith}
use Rattle.std.specs.List.{list_all}
use Rattle.std.proofs.lemmas.Bool.{and_parts}
use Rattle.html_page.specs.Ids.{id_text, is_id_byte}

pub plain_id_text : (text : List ℕ) → list_all is_id_byte text ≡ true → id_text text ≡ text
plain_id_text [] h = refl
plain_id_text (b ∷ text) h = grind (arith, plain_id_text text, and_parts)
