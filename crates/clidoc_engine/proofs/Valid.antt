-- The front of some bytes that is a text.
use Rattle.std.proofs.Common.{◌≡◌, ℕ, ◌≤◌, List, length, take, sym, subst}
use Rattle.std.specs.Str.Lossy.{utf8_valid_len}
use Rattle.std.proofs.lemmas.List.{length-take-le}
use Rattle.std.proofs.lemmas.Str.{utf8_valid_len_le}

pub valid_front : (bytes front : List ℕ) (n : ℕ) → front ≡ bytes → n ≡ utf8_valid_len bytes → n ≡ length (take n front)
valid_front bytes front n is len = sym (length-take-le n front (subst (λ xs. n ≤ length xs) (sym is) (subst (λ m. m ≤ length bytes) (sym len) (utf8_valid_len_le bytes))))
