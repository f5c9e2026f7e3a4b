-- What a set of words has, and the words of a syntax.
use Rattle.std.proofs.Common.{◌≡◌, ℕ, ◌+◌, ◌-◌, ◌<◌, ◌≤◌, Bool, true, cond, ◌||◌, false, List, [], ◌∷◌, ◌++◌, length, take, drop, get_or, refl, sym, ap, ◌∙◌, subst, Bor, arith}
use Rattle.std.specs.Prelude.{bytes_eq}
use Rattle.std.specs.List.{list_any, position_or_len, slice_split}
use Rattle.std.specs.Cmp.Lexicographic.{on_texts_equal, slice_cmp, texts_ties}
use Rattle.std.specs.Ordering.{eq_by_cmp, nat_cmp}
use Rattle.std.specs.declared.cmp.Ordering.{Ordering}
use Rattle.std.proofs.lemmas.List.{length-drop, map-append, take_all, take_more}
use Rattle.std.proofs.lemmas.List.Folds.{list_any-append}
use Rattle.std.proofs.lemmas.List.Splits.{slice_split_first, slice_split_none}
use Rattle.std.proofs.lemmas.List.Sums.{fails_before_first}
use Rattle.description_hints.specs.Names.{is_among, is_separator}
use Rattle.description_hints.specs.View.{words_said}

abbrev Key : Type 0
Key = Bor (List ℕ)

abbrev by_text : Key → Key → Ordering
by_text x y = slice_cmp nat_cmp x.now y.now

abbrev same : Key → Key → Bool
same x y = bytes_eq x.now y.now

by_order : eq_by_cmp by_text ≡ same
by_order i x y = sym (texts_ties x.now y.now) i

abbrev has_key : List Key → List ℕ → Bool
has_key keys word = list_any (λ key. bytes_eq word key.now) keys

abbrev pub Held : (keys words : List Key) → Type 0
Held keys words = (word : List ℕ) → has_key keys word ≡ is_among (words_said words) word

abbrev pub holds_by_order : List Key → Key → Bool
holds_by_order keys key = list_any (eq_by_cmp by_text key) keys

-- after one more is put among the keys
abbrev pub IsPut : (keys more : List Key) → Key → Type 0
IsPut keys more key = (q : Key) → holds_by_order more q ≡ cond (eq_by_cmp by_text key q) true (holds_by_order keys q)

put_by_text : (keys more : List Key) (key : Key) → IsPut keys more key → (q : Key) → has_key more q.now ≡ cond (same key q) true (has_key keys q.now)
put_by_text keys more key = subst (λ (eq : Key → Key → Bool). (q : Key) → list_any (eq q) more ≡ cond (eq key q) true (list_any (eq q) keys)) by_order

one_more : (b c rest : Bool) → c ≡ rest → cond b true c ≡ (rest || (b || false))
one_more b c rest h = grind arith

texts_equal : (s t : List ℕ) → bytes_eq s t ≡ bytes_eq t s
texts_equal s t = (on_texts_equal (λ (x : List ℕ). x)).symm s t

front_words : (words : List Key) (i : ℕ) (d : Key) → i < length words → words_said (take (i + 1) words) ≡ words_said (take i words) ++ (get_or words i d).now ∷ []
front_words words i d h = ap words_said (take_more words i d h) ∙ map-append (λ word. word.now) (take i words) (get_or words i d ∷ [])

pub held_more : (keys more words : List Key) (i : ℕ) (d : Key) → i < length words → Held keys (take i words) → IsPut keys more (get_or words i d) → Held more (take (i + 1) words)
held_more keys more words i d h held put word =
    let key = get_or words i d in
    put_by_text keys more key put (record key { now = word })
    ∙ ap (λ b. cond b true (has_key keys word)) (texts_equal key.now word)
    ∙ one_more (bytes_eq word key.now) (has_key keys word) (is_among (words_said (take i words)) word) (held word)
    ∙ sym (ap (list_any (bytes_eq word)) (front_words words i d h) ∙ list_any-append (bytes_eq word) (words_said (take i words)) (key.now ∷ []))

pub word_put : (keys more : List Key) (key : Key) → IsPut keys more key → (word : List ℕ) → has_key more word ≡ (has_key keys word || (bytes_eq word key.now || false))
word_put keys more key put word =
    put_by_text keys more key put (record key { now = word }) ∙ ap (λ b. cond b true (has_key keys word)) (texts_equal key.now word)
    ∙ one_more (bytes_eq word key.now) (has_key keys word) (has_key keys word) refl

-- a key that is found by its order
pub held_by_order : (keys : List Key) (key : Key) → holds_by_order keys key ≡ has_key keys key.now
held_by_order keys key = ap (λ (eq : Key → Key → Bool). list_any (eq key) keys) by_order

-- ---- a syntax, cut at its first separator

pub word_cut : (text : List ℕ) (n : ℕ) → n ≡ position_or_len is_separator text → n < length text
    → (slice_split is_separator text ≡ take n text ∷ slice_split is_separator (take (length text - (n + 1)) (drop (n + 1) text))) × (length (take (length text - (n + 1)) (drop (n + 1) text)) < length text)
word_cut text n is h =
    let size : length (drop (n + 1) text) ≡ length text - (n + 1) = length-drop (n + 1) text in
    let rest : take (length text - (n + 1)) (drop (n + 1) text) ≡ drop (n + 1) text = take_all (length text - (n + 1)) (drop (n + 1) text) (omega arith) in
    let first : slice_split is_separator text ≡ take n text ∷ slice_split is_separator (drop (n + 1) text) =
    subst (λ m. slice_split is_separator text ≡ take m text ∷ slice_split is_separator (drop (m + 1) text)) (sym is) (slice_split_first is_separator text 0 (subst (λ m. m < length text) is h)) in
    (first ∙ ap (λ more. take n text ∷ slice_split is_separator more) (sym rest), subst (λ more. length more < length text) (sym rest) (omega arith))

pub word_alone : (text : List ℕ) → length text ≤ position_or_len is_separator text → slice_split is_separator text ≡ text ∷ []
word_alone text h = slice_split_none is_separator text (λ k d l. fails_before_first is_separator text k d (omega arith))
