-- Whether any of the fixed words is not English.
use Rattle.std.proofs.Common.{◌≡◌, ℕ, ◌+◌, ◌<◌, ◌≤◌, Bool, true, false, not, List, [], ◌∷◌, ◌++◌, length, map, take, drop, get_or, refl, sym, ap, ◌∙◌, subst, append-nil}
use Rattle.std.specs.Prelude.{bytes_eq, cond}
use Rattle.std.proofs.lemmas.Bool.{false≢true}
use Rattle.std.proofs.lemmas.List.{drop_all, drop_more, map-append, take_all, take_more}
use Rattle.std.proofs.lemmas.List.Concat.{flat_map-append}
use Rattle.json.specs.Token.{Token}
use Rattle.json_of_descriptions.specs.Descriptions.{word_fields, words_fields}
use Rattle.json_of_descriptions.specs.Fields.{Field, is_nothing}
use Rattle.json_of_descriptions.specs.Steps.{PutsFields}
use Rattle.json_of_descriptions.specs.View.{word_said}
use Rattle.json_of_descriptions.specs.declared.words.Word.{Word}
use Rattle.json_of_descriptions.proofs.Putting.{fields_then}

abbrev pub all_words : List Word → List Field
all_words rows = words_fields (map word_said rows)

first : (t : Bool) (f : Field) (fs : List Field) → not t ≡ false → is_nothing (cond t [] (f ∷ []) ++ fs) ≡ is_nothing fs
first true f fs h = refl
first false f fs h = absurd (false≢true (sym h))

other : (t : Bool) (f : Field) (fs : List Field) → not t ≡ true → is_nothing (cond t [] (f ∷ []) ++ fs) ≡ false
other true f fs h = absurd (false≢true h)
other false f fs h = refl

module _ (rows : List Word) (i : ℕ) (x d : Word) (within : i < length rows) (is : x ≡ get_or rows i d) where
  next : drop i rows ≡ x ∷ drop (i + 1) rows
  next = drop_more rows i d within ∙ ap (λ y. y ∷ drop (i + 1) rows) (sym is)

  pub usual_next : (whole : Bool) → not (bytes_eq x.word.now x.usual.now) ≡ false → is_nothing (all_words (drop i rows)) ≡ whole → is_nothing (all_words (drop (i + 1) rows)) ≡ whole
  usual_next whole h so_far = sym (ap (λ ys. is_nothing (all_words ys)) next ∙ first (bytes_eq x.word.now x.usual.now) _ (all_words (drop (i + 1) rows)) h) ∙ so_far

  pub usual_stops : (whole : Bool) → not (bytes_eq x.word.now x.usual.now) ≡ true → is_nothing (all_words (drop i rows)) ≡ whole → false ≡ whole
  usual_stops whole h so_far = sym (ap (λ ys. is_nothing (all_words ys)) next ∙ other (bytes_eq x.word.now x.usual.now) _ (all_words (drop (i + 1) rows)) h) ∙ so_far

  pub rows_next : {a b c : List Token} → PutsFields a b (all_words (take i rows)) → PutsFields b c (word_fields (word_said x)) → PutsFields a c (all_words (take (i + 1) rows))
  rows_next {a} {b} {c} w v =
      let more : take (i + 1) rows ≡ take i rows ++ x ∷ [] = take_more rows i d within ∙ ap (λ y. take i rows ++ y ∷ []) (sym is) in
      let all : all_words (take (i + 1) rows) ≡ all_words (take i rows) ++ (word_fields (word_said x) ++ []) =
      ap all_words more ∙ ap words_fields (map-append word_said (take i rows) (x ∷ [])) ∙ flat_map-append word_fields (map word_said (take i rows)) (word_said x ∷ []) in
      subst (PutsFields a c) (sym all) (fields_then w (subst (PutsFields b c) (sym (append-nil (word_fields (word_said x)))) v))

pub usual_all : (rows : List Word) (i : ℕ) (whole : Bool) → length rows ≤ i → is_nothing (all_words (drop i rows)) ≡ whole → true ≡ whole
usual_all rows i whole past so_far = sym (ap (λ ys. is_nothing (all_words ys)) (drop_all i rows past)) ∙ so_far

pub rows_all : {a b : List Token} (rows : List Word) (i : ℕ) → length rows ≤ i → PutsFields a b (all_words (take i rows)) → PutsFields a b (all_words rows)
rows_all {a} {b} rows i past w = subst (λ ys. PutsFields a b (all_words ys)) (take_all i rows past) w
