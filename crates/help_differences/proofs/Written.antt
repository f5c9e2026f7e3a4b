-- Names that are written as `--[no-]x`.
use Rattle.std.proofs.Common.{◌≡◌, ℕ, ◌+◌, Bool, true, false, List, ◌++◌, length, drop, take, Option, Some, None, Bor, MatchOption, refl, sym, ap, ◌∙◌}
use Rattle.std.specs.Str.Pattern.{FindsTextPrefix, LacksTextAt}
use Rattle.std.proofs.lemmas.List.{take-append-drop}
use Rattle.std.proofs.lemmas.Slice.Eq.{bytes_eq-Decides}
use Rattle.help_differences.specs.Names.{is_negatable, negatable}

begun : (text : List ℕ) → is_negatable text ≡ true → text ≡ negatable ++ drop (length negatable) text
begun text h = sym (take-append-drop (length negatable) text) ∙ ap (λ f. f ++ drop (length negatable) text) ((bytes_eq-Decides (take (length negatable) text) negatable).0 h)

lacks : (text : List ℕ) → LacksTextAt negatable text 0 → is_negatable text ≡ false
lacks text h = by (is_negatable text) refl where
  by : (t : Bool) → is_negatable text ≡ t → t ≡ false
  by true e = absurd (h (drop (length negatable) text) (begun text e))
  by false e = refl

has : (rest : List ℕ) → is_negatable (negatable ++ rest) ≡ true
has rest = refl

pub stripped : (text : List ℕ) (r : Option (Bor (List ℕ)))
    → MatchOption r (FindsTextPrefix negatable text None) (λ x. (n : ℕ) × FindsTextPrefix negatable text (Some n) × (x.now ≡ drop n text) × (length x.now + n ≡ length text))
    → MatchOption r (is_negatable text ≡ false) (λ word. (is_negatable text ≡ true) × (word.now ≡ drop (length negatable) text))
stripped text None h = lacks text h
stripped text (Some x) h = (ap is_negatable h.1.1 ∙ has (drop h.0 text), h.2 ∙ ap (λ n. drop n text) h.1.0)
