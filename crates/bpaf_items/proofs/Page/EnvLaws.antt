-- An insertion into a map of texts.
use Rattle.std.specs.Prelude.{if◌then◌else◌, ◌≡◌, ◌≢◌}
use Rattle.bpaf_items.proofs.Words.{ℕ, false, List, Some, ap, sym, arith, same_text, TextsAreInserted}
use Rattle.std.proofs.lemmas.Cmp.{nat_list_eq_equiv}
use Rattle.bpaf_items.specs.Steps.KeyOrder.{texts_are}

other_text : (xs ys : List ℕ) → xs ≢ ys → same_text xs ys ≡ false
other_text xs ys h = grind (arith, texts_are)

pub texts_are_inserted : TextsAreInserted
texts_are_inserted texts name text = record {
  at_name = ap (λ b. if b then Some text else texts name) (nat_list_eq_equiv.refl name);
  elsewhere = λ other h. ap (λ b. if b then Some text else texts other) (other_text name other (λ e. h (sym e)));
}
