-- What is read of an entry stands in its line.
use Rattle.std.proofs.Common.{◌≡◌, ℕ, suc, zero, ◌+◌, ◌-◌, ◌<◌, Bool, true, false, cond, List, [], ◌∷◌, All, IfSome, Option, None, Some, bytes_eq, codes, drop, get_or, length, take, refl, sym, ap, ◌∙◌, subst, arith, one-add}
use Rattle.std.specs.List.{list_any, suffix_len}
use Rattle.std.specs.Str.{IsCharBoundary, IsUtf8, trim}
use Rattle.std.proofs.lemmas.Bool.Decides.{nat_tests}
use Rattle.std.proofs.lemmas.List.{get_or-drop, length-drop}
use Rattle.std.proofs.lemmas.List.Elements.{All-append, All-cons, All-head, All-nil, All-tail, All-weaker}
use Rattle.std.proofs.lemmas.Str.{IsCharBoundary-before_ascii, IsCharBoundary-end, IsUtf8-drop, IsUtf8-take}
use Rattle.help_fronts.specs.declared.bytes.Class.{Class}
use Rattle.help_fronts.specs.declared.bytes.Class.TheVariants as class
use Rattle.help_fronts.specs.Bytes.{is_bracket, is_in, without_end, without_front}
use Rattle.help_fronts.specs.Fronts.{FrontSaid, option_front}
use Rattle.help_fronts.specs.Laws.{IsFrontOf, IsTextOf}
use Rattle.help_fronts.specs.Words.{bare_word, value_word}
use Rattle.help_fronts.proofs.Boundaries.{before_class, after_class}
use Rattle.help_fronts.proofs.Stands.{options_stand_in_their_line}
use Rattle.help_fronts.proofs.Texts.{all_within, dropped, nothing, taken, value_word_of, within}
use Rattle.drafts.specs.Entries.{ends_front, front_len, value_name}
use Rattle.drafts.specs.Free.{FreeSaid, Has, free_front, free_fronts, free_name, free_names, front_keys, fronts, fronts_by, is_doubled, is_free, line_fronts, next_text, none_taken, with_key, with_keys, keeps_value, valued, without_value}
use Rattle.drafts.specs.Options.{either, is_long, is_short, key, letter_of, long_word, short_letter, word_of}
use Rattle.drafts.specs.Laws.{IsOptionOf, OptionsStandInTheirLine, ValuesStandInTheirLine}
use Rattle.drafts.proofs.Lists.{end_passes}
use Rattle.drafts.proofs.Trims.{trimmed}

-- ---- the options of a line

value_within : (line text : List ℕ) → IsTextOf line text → (v : Option (List ℕ)) → IfSome v (IsTextOf text) → IfSome v (IsTextOf line)
value_within line text h None v = tt
value_within line text h (Some t) v = within line text t h v

front_within : (line text : List ℕ) → IsTextOf line text → (f : FrontSaid) → IsFrontOf text f → IsFrontOf line f
front_within line text h f front = record {
  names = all_within line text h f.names front.names;
  values = all_within line text h f.values front.values;
  value = value_within line text h f.value front.value;
  written = within line text f.written h front.written;
  gap = within line text f.gap h front.gap;
  help = within line text f.help h front.help;
}

next_stands : (line : List ℕ) (f : FrontSaid) → IsFrontOf line f → IsTextOf line (next_text f)
next_stands line f front = by (bytes_eq f.gap (codes " ")) where
  by : (t : Bool) → IsTextOf line (cond t f.help [])
  by true = front.help
  by false = nothing line

fronts_stand : (n : ℕ) (line : List ℕ) → All (IsFrontOf line) (fronts n line)
fronts_stand zero line = All-nil (IsFrontOf line)
fronts_stand (suc n) line = by (option_front line) (options_stand_in_their_line line) (λ t. fronts_stand n t) where
  by : (o : Option FrontSaid) → IfSome o (IsFrontOf line) → ((t : List ℕ) → All (IsFrontOf t) (fronts n t)) → All (IsFrontOf line) (fronts_by (fronts n) o)
  by None h below = All-nil (IsFrontOf line)
  by (Some f) h below =
      let next = next_text f in
      All-cons (IsFrontOf line) f (fronts n next) h (All-weaker (IsFrontOf next) (IsFrontOf line) (λ g. front_within line next (next_stands line f h) g) (fronts n next) (below next))

free_names_stand : (line : List ℕ) (has seen : Has) (ns : List (List ℕ)) → All (IsTextOf line) ns → All (IsTextOf line) (free_names has seen ns)
free_names_stand line has seen [] all = All-nil (IsTextOf line)
free_names_stand line has seen (n ∷ ns) all =
    All-append (IsTextOf line) (free_name has seen n) (free_names has (with_key seen (key n)) ns) (by (is_free has seen n))
    (free_names_stand line has (with_key seen (key n)) ns (All-tail (IsTextOf line) n ns all)) where
      by : (t : Bool) → All (IsTextOf line) (cond t (n ∷ []) [])
      by true = All-cons (IsTextOf line) n [] (All-head (IsTextOf line) n ns all) (All-nil (IsTextOf line))
      by false = All-nil (IsTextOf line)

valued_stands : (line : List ℕ) (f : FrontSaid) (ns : List (List ℕ)) → IsFrontOf line f → IsFrontOf line (valued f ns)
valued_stands line f ns front = by (is_doubled f ns) (keeps_value f ns) where
  by : (d t : Bool) → IsFrontOf line (cond d (record f { is_optional = true }) (cond t f (without_value f)))
  by true t = record { names = front.names; values = front.values; value = front.value; written = front.written; gap = front.gap; help = front.help }
  by false true = front
  by false false = record { names = front.names; values = All-nil (IsTextOf line); value = tt; written = front.written; gap = front.gap; help = front.help }

freed_stands : (line : List ℕ) (f : FrontSaid) (ns : List (List ℕ)) → All (IsTextOf line) ns → IsFrontOf line f → IsFrontOf line (record (valued f ns) { names = ns })
freed_stands line f ns names front =
    let rest = valued_stands line f ns front in
    record { names = names; values = rest.values; value = rest.value; written = rest.written; gap = rest.gap; help = rest.help }

letter_stands : (line n : List ℕ) → IsTextOf line n → IfSome (letter_of n) (IsTextOf line)
letter_stands line n h = by (is_short n) where
  by : (t : Bool) → IfSome (cond t (Some (drop 1 n)) None) (IsTextOf line)
  by true = within line n (drop 1 n) h (dropped 1 n)
  by false = tt

word_stands : (line n : List ℕ) → IsTextOf line n → IfSome (word_of n) (IsTextOf line)
word_stands line n h = by (is_long n) where
  by : (t : Bool) → IfSome (cond t (Some (drop 2 n)) None) (IsTextOf line)
  by true = within line n (drop 2 n) h (dropped 2 n)
  by false = tt

either_stands : (line : List ℕ) (t u : Option (List ℕ)) → IfSome t (IsTextOf line) → IfSome u (IsTextOf line) → IfSome (either t u) (IsTextOf line)
either_stands line None u h g = g
either_stands line (Some text) u h g = h

first_letter_stands : (line : List ℕ) (ns : List (List ℕ)) → All (IsTextOf line) ns → IfSome (short_letter ns) (IsTextOf line)
first_letter_stands line [] all = tt
first_letter_stands line (n ∷ ns) all =
    either_stands line (letter_of n) (short_letter ns) (letter_stands line n (All-head (IsTextOf line) n ns all)) (first_letter_stands line ns (All-tail (IsTextOf line) n ns all))

first_word_stands : (line : List ℕ) (ns : List (List ℕ)) → All (IsTextOf line) ns → IfSome (long_word ns) (IsTextOf line)
first_word_stands line [] all = tt
first_word_stands line (n ∷ ns) all =
    either_stands line (word_of n) (long_word ns) (word_stands line n (All-head (IsTextOf line) n ns all)) (first_word_stands line ns (All-tail (IsTextOf line) n ns all))

option_stands : (line : List ℕ) (f : FrontSaid) → IsFrontOf line f → IsOptionOf line f
option_stands line f front = record { front = front; letter = first_letter_stands line f.names front.names; word = first_word_stands line f.names front.names }

free_fronts_stand : (line : List ℕ) (has seen : Has) (fs : List FrontSaid) → All (IsFrontOf line) fs → All (λ f. IsOptionOf line f.front) (free_fronts has seen fs)
free_fronts_stand line has seen [] all = All-nil (λ (f : FreeSaid). IsOptionOf line f.front)
free_fronts_stand line has seen (f ∷ fs) all =
    let front = All-head (IsFrontOf line) f fs all in
    let names = free_names has seen f.names in
    All-cons (λ f. IsOptionOf line f.front) (free_front has seen f) (free_fronts has (with_keys seen (front_keys f)) fs)
    (option_stands line (record (valued f names) { names = names }) (freed_stands line f names (free_names_stand line has seen f.names front.names) front))
    (free_fronts_stand line has (with_keys seen (front_keys f)) fs (All-tail (IsFrontOf line) f fs all))

pub options_of_a_line_stand : OptionsStandInTheirLine
options_of_a_line_stand has line = free_fronts_stand line has none_taken (line_fronts line) (fronts_stand (length line) line)

-- ---- values

without_front_utf8 : (k : Class) (t : List ℕ) → IsUtf8 t → IsUtf8 (without_front k t)
without_front_utf8 k t u = IsUtf8-drop t _ u (after_class k t _ refl u)

without_end_utf8 : (k : Class) (t : List ℕ) → IsUtf8 t → IsUtf8 (without_end k t)
without_end_utf8 k t u =
    let n = length t - suffix_len (is_in k) t in
    let long = length-drop n t in
    let here : n ≡ n + 0 = omega arith in
    let at : n < length t → is_in k (get_or t n 0) ≡ true =
    λ h. ap (λ m. is_in k (get_or t m 0)) here ∙ sym (ap (is_in k) (get_or-drop n t 0 0)) ∙ end_passes (is_in k) t 0 0 (omega arith) in
    IsUtf8-take t n u (before_class k t n (omega arith) at)

value_word_utf8 : (t : List ℕ) → IsUtf8 t → IsUtf8 (value_word t)
value_word_utf8 t u = by (list_any is_bracket (bare_word t)) where
  by : (b : Bool) → IsUtf8 (cond b t (bare_word t))
  by true = u
  by false = without_end_utf8 class.Tail (without_front class.Lead t) (without_front_utf8 class.Lead t u)

ends_ascii : (b next : ℕ) → ends_front b next ≡ true → b < 128
ends_ascii b next h = grind (arith, nat_tests)

front_ends : (t : List ℕ) → IsCharBoundary t (front_len t)
front_ends [] = IsCharBoundary-end []
front_ends (b ∷ bs) = by (ends_front b (get_or bs 0 0)) refl (front_ends bs) where
  by : (t : Bool) → ends_front b (get_or bs 0 0) ≡ t → IsCharBoundary bs (front_len bs) → IsCharBoundary (b ∷ bs) (cond t 0 (1 + front_len bs))
  by true e below = IsCharBoundary-before_ascii (b ∷ bs) 0 (omega arith) (ends_ascii b (get_or bs 0 0) e)
  by false e below = subst (IsCharBoundary (b ∷ bs)) (sym (one-add (front_len bs))) ((let n = below.0 in omega arith), (λ l. below.1 (omega arith)))

pub values_stand_in_their_line : ValuesStandInTheirLine
values_stand_in_their_line line u =
    let whole = trimmed line u in
    let text = trim line in
    let front = take (front_len text) text in
    let word_utf8 : IsUtf8 (value_word front) = value_word_utf8 front (IsUtf8-take text (front_len text) whole.utf8 (front_ends text)) in
    let name = trimmed (value_word front) word_utf8 in
    let front_stands : IsTextOf line front = within line text front whole.stands (taken (front_len text) text) in
    record {
      front = front_stands;
      help = within line text (drop (front_len text) text) whole.stands (dropped (front_len text) text);
      name = within line (value_word front) (value_name front) (within line front (value_word front) front_stands (value_word_of front)) name.stands;
    }
