-- What a set of words has.
use Rattle.std.proofs.Common.{◌≡◌, ℕ, Bool, true, cond, ◌||◌, List, sym, ap, ◌∙◌, subst, Bor, arith}
use Rattle.std.specs.Prelude.{bytes_eq}
use Rattle.std.specs.List.{list_any}
use Rattle.std.specs.Cmp.Lexicographic.{on_texts_equal, slice_cmp, texts_ties}
use Rattle.std.specs.Ordering.{eq_by_cmp, nat_cmp}
use Rattle.std.specs.declared.cmp.Ordering.{Ordering}
use Rattle.drafts.specs.Free.{Has, with_key}

abbrev Key : Type 0
Key = Bor (List ℕ)

abbrev by_text : Key → Key → Ordering
by_text x y = slice_cmp nat_cmp x.now y.now

abbrev same : Key → Key → Bool
same x y = bytes_eq x.now y.now

by_order : eq_by_cmp by_text ≡ same
by_order i x y = sym (texts_ties x.now y.now) i

abbrev has_key : List Key → Has
has_key keys word = list_any (λ key. bytes_eq word key.now) keys

abbrev holds_by_order : List Key → Key → Bool
holds_by_order keys key = list_any (eq_by_cmp by_text key) keys

-- after one more is put among the keys
abbrev pub IsPut : (keys more : List Key) → Key → Type 0
IsPut keys more key = (q : Key) → holds_by_order more q ≡ cond (eq_by_cmp by_text key q) true (holds_by_order keys q)

put_by_text : (keys more : List Key) (key : Key) → IsPut keys more key → (q : Key) → has_key more q.now ≡ cond (same key q) true (has_key keys q.now)
put_by_text keys more key = subst (λ (eq : Key → Key → Bool). (q : Key) → list_any (eq q) more ≡ cond (eq key q) true (list_any (eq q) keys)) by_order

one_more : (b c : Bool) → cond b true c ≡ (c || b)
one_more b c = grind arith

texts_equal : (s t : List ℕ) → bytes_eq s t ≡ bytes_eq t s
texts_equal s t = (on_texts_equal (λ (x : List ℕ). x)).symm s t

word_put : (keys more : List Key) (key : Key) → IsPut keys more key → (word : List ℕ) → has_key more word ≡ with_key (has_key keys) key.now word
word_put keys more key put word =
    put_by_text keys more key put (record key { now = word }) ∙ ap (λ b. cond b true (has_key keys word)) (texts_equal key.now word)
    ∙ one_more (bytes_eq word key.now) (has_key keys word)

pub has_put : (keys more : List Key) (key : Key) → IsPut keys more key → has_key more ≡ with_key (has_key keys) key.now
has_put keys more key put i word = word_put keys more key put word i

-- a key that is found by its order
pub held_by_order : (keys : List Key) (key : Key) → holds_by_order keys key ≡ has_key keys key.now
held_by_order keys key = ap (λ (eq : Key → Key → Bool). list_any (eq key) keys) by_order
