-- Parts of a text are texts of it.
use Rattle.std.proofs.Common.{◌≡◌, ℕ, Bool, true, false, cond, List, [], ◌∷◌, ◌++◌, ◌-◌, ◌==◌, All, drop, length, map, take, refl, sym, ap, ◌∙◌, subst, append_assoc}
use Rattle.std.specs.List.{concat, list_any, onto_first, slice_split}
use Rattle.std.proofs.lemmas.List.{append-nil, take-append-drop}
use Rattle.std.proofs.lemmas.List.Elements.{All-cons, All-map, All-nil, All-weaker}
use Rattle.help_fronts.specs.declared.bytes.Class.{Class}
use Rattle.help_fronts.specs.declared.bytes.Class.TheVariants as class
use Rattle.help_fronts.specs.Bytes.{first, is_bracket, is_usage_mark, without_end, without_front}
use Rattle.help_fronts.specs.Pieces.{deeper, is_cut, onto_pieces, pieces, pieces_after, word}
use Rattle.help_fronts.specs.Words.{attached, bare_word, is_joiner, is_name, name, name_len, value_text, value_word, without_joints}
use Rattle.help_fronts.specs.Fronts.{listed}
use Rattle.help_fronts.specs.Usages.{WordSaid, apart, left_after_value, is_apart, is_joined, last_word, len_of_value, onto_word, usage_words, value_after, value_in}
use Rattle.help_fronts.specs.Laws.{IsTextOf}

pub itself : (t : List ℕ) → IsTextOf t t
itself t = record { before = []; after = []; whole = sym (append-nil t) }

pub nothing : (t : List ℕ) → IsTextOf t []
nothing t = record { before = []; after = t; whole = refl }

pub at_front : (s t : List ℕ) → IsTextOf (s ++ t) s
at_front s t = record { before = []; after = t; whole = refl }

pub at_end : (s t : List ℕ) → IsTextOf (s ++ t) t
at_end s t = record { before = s; after = []; whole = ap (λ r. s ++ r) (sym (append-nil t)) }

-- a text of a text of a line
pub within : (line s t : List ℕ) → IsTextOf line s → IsTextOf s t → IsTextOf line t
within line s t outer inner =
    record {
      before = outer.before ++ inner.before;
      after = inner.after ++ outer.after;
      whole = outer.whole ∙ ap (λ r. outer.before ++ (r ++ outer.after)) inner.whole ∙ simp append_assoc;
    }

pub taken : (n : ℕ) (t : List ℕ) → IsTextOf t (take n t)
taken n t = subst (λ r. IsTextOf r (take n t)) (take-append-drop n t) (at_front (take n t) (drop n t))

pub dropped : (n : ℕ) (t : List ℕ) → IsTextOf t (drop n t)
dropped n t = subst (λ r. IsTextOf r (drop n t)) (take-append-drop n t) (at_end (take n t) (drop n t))

-- ---- what is read of a word

pub word_of : (p : List ℕ) → IsTextOf p (word p)
word_of [] = nothing []
word_of (b ∷ bs) = by (b == 32) where
  by : (t : Bool) → IsTextOf (b ∷ bs) (cond t bs (b ∷ bs))
  by true = dropped 1 (b ∷ bs)
  by false = itself (b ∷ bs)

-- without bytes at the front and at the end
between : (k j : Class) (t : List ℕ) → IsTextOf t (without_end j (without_front k t))
between k j t = within t (without_front k t) (without_end j (without_front k t)) (dropped _ t) (taken _ (without_front k t))

pub name_of : (w : List ℕ) → IsTextOf w (name w)
name_of w = within w (take (name_len w) w) (name w) (taken (name_len w) w) (taken _ (take (name_len w) w))

pub without_joints_of : (t : List ℕ) → IsTextOf t (without_joints t)
without_joints_of t = between class.Joint class.Joint t

pub bare_word_of : (t : List ℕ) → IsTextOf t (bare_word t)
bare_word_of t = between class.Lead class.Tail t

pub value_word_of : (t : List ℕ) → IsTextOf t (value_word t)
value_word_of t = by (list_any is_bracket (bare_word t)) where
  by : (b : Bool) → IsTextOf t (cond b t (bare_word t))
  by true = itself t
  by false = bare_word_of t

pub value_text_of : (w : List ℕ) → IsTextOf w (value_text w)
value_text_of w = by (is_joiner w) (is_name w) where
  by : (j n : Bool) → IsTextOf w (cond j [] (without_joints (cond n (attached w) w)))
  by true n = nothing w
  by false true = within w (attached w) (without_joints (attached w)) (dropped _ w) (without_joints_of (attached w))
  by false false = without_joints_of w

-- ---- pieces

concat_more : (b : ℕ) (ps : List (List ℕ)) → concat (onto_first b ps) ≡ b ∷ concat ps
concat_more b [] = refl
concat_more b (p ∷ ps) = refl

concat_onto : (c : Bool) (b : ℕ) (ps : List (List ℕ)) → concat (onto_pieces c b ps) ≡ b ∷ concat ps
concat_onto true b ps = concat_more b ps
concat_onto false b ps = concat_more b ps

concat_after : (depth before : ℕ) (bs : List ℕ) → concat (pieces_after depth before bs) ≡ bs
concat_after depth before [] = refl
concat_after depth before (b ∷ bs) =
    concat_onto (is_cut depth before b) b (pieces_after (deeper depth b) b bs) ∙ ap (λ t. b ∷ t) (concat_after (deeper depth b) b bs)

-- pieces are the whole text
pub concat_pieces : (text : List ℕ) → concat (pieces text) ≡ text
concat_pieces [] = refl
concat_pieces (b ∷ bs) = concat_more b (pieces_after (deeper 0 b) b bs) ∙ ap (λ t. b ∷ t) (concat_after (deeper 0 b) b bs)

-- each of the texts that are joined
pub joined : (ps : List (List ℕ)) → All (IsTextOf (concat ps)) ps
joined [] = All-nil (IsTextOf [])
joined (p ∷ ps) =
    let whole = p ++ concat ps in
    All-cons (IsTextOf whole) p ps (at_front p (concat ps))
    (All-weaker (IsTextOf (concat ps)) (IsTextOf whole) (λ q h. within whole (concat ps) q (at_end p (concat ps)) h) ps (joined ps))

pub all_within : (line text : List ℕ) → IsTextOf line text → (ts : List (List ℕ)) → All (IsTextOf text) ts → All (IsTextOf line) ts
all_within line text h ts = All-weaker (IsTextOf text) (IsTextOf line) (λ t. within line text t h) ts

-- what is read of each text
pub all_read : (read : List ℕ → List ℕ) → ((t : List ℕ) → IsTextOf t (read t)) → (line : List ℕ) (ts : List (List ℕ)) → All (IsTextOf line) ts → All (IsTextOf line) (map read ts)
all_read read reads line ts all = All-map (IsTextOf line) read ts (All-weaker (IsTextOf line) (λ t. IsTextOf line (read t)) (λ t h. within line t (read t) h (reads t)) ts all)

-- ---- what a byte parts

-- the first part begins the text, and the others stand in it
record ArePartsOf (text : List ℕ) (parts : List (List ℕ)) : Type 0 where
  first : List ℕ
  others : List (List ℕ)
  rest : List ℕ
  split : parts ≡ first ∷ others
  begins : text ≡ first ++ rest
  stand : All (IsTextOf text) others

all_parts : (text : List ℕ) (parts : List (List ℕ)) → ArePartsOf text parts → All (IsTextOf text) parts
all_parts text parts h =
    subst (All (IsTextOf text)) (sym h.split) (All-cons (IsTextOf text) h.first h.others (subst (λ t. IsTextOf t h.first) (sym h.begins) (at_front h.first h.rest)) h.stand)

parts_of : (p : ℕ → Bool) (text : List ℕ) → ArePartsOf text (slice_split p text)
parts_of p [] = record { first = []; others = []; rest = []; split = refl; begins = refl; stand = All-nil (IsTextOf []) }
parts_of p (b ∷ bs) = by (p b) (parts_of p bs) where
  after : IsTextOf (b ∷ bs) bs
  after = dropped 1 (b ∷ bs)

  by : (t : Bool) → ArePartsOf bs (slice_split p bs) → ArePartsOf (b ∷ bs) (cond t ([] ∷ slice_split p bs) (onto_first b (slice_split p bs)))
  by true h = record {
    first = [];
    others = slice_split p bs;
    rest = b ∷ bs;
    split = refl;
    begins = refl;
    stand = all_within (b ∷ bs) bs after (slice_split p bs) (all_parts bs (slice_split p bs) h);
  }
  by false h = record {
    first = b ∷ h.first;
    others = h.others;
    rest = h.rest;
    split = ap (onto_first b) h.split;
    begins = ap (λ t. b ∷ t) h.begins;
    stand = all_within (b ∷ bs) bs after h.others h.stand;
  }

-- each name of a list stands in it
pub listed_are : (w : List ℕ) → All (IsTextOf w) (listed w)
listed_are w =
    let after = drop 1 w in
    let inside = take (length w - 2) after in
    let stands : IsTextOf w inside = within w after inside (dropped 1 w) (taken (length w - 2) after) in
    let parts = slice_split (λ b. b == 44) inside in
    all_read word word_of w parts (all_within w inside stands parts (all_parts inside parts (parts_of (λ b. b == 44) inside)))

-- ---- words of a usage

pub record IsWordIn (line : List ℕ) (w : WordSaid) : Type 0 where
  pub text : IsTextOf line w.text
  pub after : IsTextOf line w.after

-- the first word begins the text, and the others stand in it
record AreWordsOf (text : List ℕ) (words : List WordSaid) : Type 0 where
  first : WordSaid
  others : List WordSaid
  rest : List ℕ
  split : words ≡ first ∷ others
  begins : text ≡ first.text ++ rest
  after : IsTextOf text first.after
  stand : All (IsWordIn text) others

word_within : (line text : List ℕ) → IsTextOf line text → (w : WordSaid) → IsWordIn text w → IsWordIn line w
word_within line text h w inner = record { text = within line text w.text h inner.text; after = within line text w.after h inner.after }

words_within : (line text : List ℕ) → IsTextOf line text → (ws : List WordSaid) → All (IsWordIn text) ws → All (IsWordIn line) ws
words_within line text h ws = All-weaker (IsWordIn text) (IsWordIn line) (word_within line text h) ws

first_word_in : (text : List ℕ) (words : List WordSaid) (h : AreWordsOf text words) → IsWordIn text h.first
first_word_in text words h = record { text = subst (λ t. IsTextOf t h.first.text) (sym h.begins) (at_front h.first.text h.rest); after = h.after }

all_words : (text : List ℕ) (words : List WordSaid) → AreWordsOf text words → All (IsWordIn text) words
all_words text words h = subst (All (IsWordIn text)) (sym h.split) (All-cons (IsWordIn text) h.first h.others (first_word_in text words h) h.stand)

words_of : (text : List ℕ) → AreWordsOf text (usage_words text)
words_of [] = record { first = last_word []; others = []; rest = []; split = refl; begins = refl; after = nothing []; stand = All-nil (IsWordIn []) }
words_of (b ∷ bs) = by (is_usage_mark b) (words_of bs) where
  after : IsTextOf (b ∷ bs) bs
  after = dropped 1 (b ∷ bs)

  marked : WordSaid
  marked = record { text = []; after = b ∷ bs }

  by : (t : Bool) → AreWordsOf bs (usage_words bs) → AreWordsOf (b ∷ bs) (cond t (marked ∷ usage_words bs) (onto_word b (usage_words bs)))
  by true h = record {
    first = marked;
    others = usage_words bs;
    rest = b ∷ bs;
    split = refl;
    begins = refl;
    after = itself (b ∷ bs);
    stand = words_within (b ∷ bs) bs after (usage_words bs) (all_words bs (usage_words bs) h);
  }
  by false h = record {
    first = record { text = b ∷ h.first.text; after = h.first.after };
    others = h.others;
    rest = h.rest;
    split = ap (onto_word b) h.split;
    begins = ap (λ t. b ∷ t) h.begins;
    after = within (b ∷ bs) bs h.first.after after h.after;
    stand = words_within (b ∷ bs) bs after h.others h.stand;
  }

pub usage_words_are : (line : List ℕ) → All (IsWordIn line) (usage_words line)
usage_words_are line = all_words line (usage_words line) (words_of line)

apart_of : (text : List ℕ) → IsTextOf text (apart text)
apart_of text = by (is_apart (value_in text) (left_after_value text)) where
  by : (t : Bool) → IsTextOf text (cond t (value_in text) [])
  by true = taken (len_of_value text) text
  by false = nothing text

pub value_after_of : (after : List ℕ) → IsTextOf after (value_after after)
value_after_of after = by (is_joined after) (first after == 32) where
  by : (j b : Bool) → IsTextOf after (cond j (value_in after) (cond b (apart (drop 1 after)) []))
  by true b = taken (len_of_value after) after
  by false true = within after (drop 1 after) (apart (drop 1 after)) (dropped 1 after) (apart_of (drop 1 after))
  by false false = nothing after
