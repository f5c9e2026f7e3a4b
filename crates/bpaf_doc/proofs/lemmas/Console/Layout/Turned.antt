-- A page newest first and the stretches in order: what the definitions say of the one, said of the other.
use Rattle.std.specs.Prelude.{if◌then◌else◌, ◌&&◌, ◌++◌, ◌+◌, ◌-◌, ◌||◌, ◌∷◌, ◌≡◌, ◌≤◌, ◌⊎◌}
use Rattle.bpaf_doc.proofs.lemmas.Console.Words.{list_any, list_all, after_last, slice_split, prefix_len, reverse-append, reverse-reverse, length-reverse, append-nil, take-append-drop, length-drop, sum_by-append, sum_by-cons, list_any-append, list_all-append, flat_map-append, All-cons, All-nil, Stretch, stretch_columns, events_of, is_newline, is_placed, is_gap, is_inked_stretch, line_before, column, padding, stretch_lines, opens_body, is_raw_or_ref, events_since_ink, sym, subst, ap, arith, inl, inr, ◌∙◌, append_assoc, ℕ, Bool, true, false, not, List, [], length, take, drop, reverse, sum_by, count_by, All, refl, cond}
use Rattle.std.proofs.Math.Seq.{drop-append_seam}
use Rattle.bpaf_doc.proofs.lemmas.Console.Layout.Back.{by_cases, column_back, any_in_line, EachPassed, NoInk}
use Rattle.bpaf_doc.proofs.lemmas.Console.Layout.Bound.{EachFront, whole_front}
use Rattle.bpaf_doc.proofs.lemmas.Console.Layout.Pads.{pads_back, body_back}
use Rattle.bpaf_doc.proofs.lemmas.Console.Layout.Split.{events_back}
use Rattle.bpaf_doc.proofs.lemmas.Console.Layout.AtMargin.{is_quiet}

pub reverse_cons : {A : Type 0} (x : A) (xs : List A) → reverse (x ∷ xs) ≡ reverse xs ++ x ∷ []
reverse_cons x xs = reverse-append (x ∷ []) xs

-- ---- tests over a turned list

pub any_turned : {A : Type 0} (p : A → Bool) (xs : List A) → list_any p (reverse xs) ≡ list_any p xs
any_turned p [] = refl
any_turned p (x ∷ xs) = ap (λ ys. list_any p ys) (reverse_cons x xs) ∙ list_any-append p (reverse xs) (x ∷ []) ∙ ap (λ (b : Bool). b || (p x || false)) (any_turned p xs) ∙ (grind arith)

pub all_turned : {A : Type 0} (p : A → Bool) (xs : List A) → list_all p (reverse xs) ≡ list_all p xs
all_turned p [] = refl
all_turned p (x ∷ xs) = ap (λ ys. list_all p ys) (reverse_cons x xs) ∙ list_all-append p (reverse xs) (x ∷ []) ∙ ap (λ (b : Bool). b && (p x && true)) (all_turned p xs) ∙ (grind arith)

pub sum_turned : {A : Type 0} (f : A → ℕ) (xs : List A) → sum_by f (reverse xs) ≡ sum_by f xs
sum_turned f [] = refl
sum_turned f (x ∷ xs) = grind (arith, sum_turned f xs, reverse_cons, sum_by-append, sum_by-cons)

-- ---- the events and the text

pub events_turned : (r : List Stretch) → events_of (reverse r) ≡ reverse (events_back r)
events_turned [] = refl
events_turned (x ∷ r) = grind (arith, events_turned r, reverse_cons, flat_map-append, append-nil)

-- the events of what stands between, which is turned
pub events_between : (m : List Stretch) → events_back (reverse m) ≡ reverse (events_of m)
events_between m = sym (reverse-reverse (events_back (reverse m))) ∙ ap (λ es. reverse es) (sym (events_turned (reverse m)) ∙ ap events_of (reverse-reverse m))

-- ---- what stands since

-- up to the last stretch that passes, newest first
abbrev pub since : (Stretch → Bool) → List Stretch → List Stretch
since p [] = []
since p (x ∷ r) = if p x then [] else (x ∷ since p r)

since_take : (p : Stretch → Bool) (r : List Stretch) → take (prefix_len (λ x. not (p x)) r) r ≡ since p r
since_take p [] = refl
since_take p (x ∷ r) = at (by_cases (p x)) (since_take p r) where
  at : (p x ≡ true) ⊎ (p x ≡ false) → take (prefix_len (λ x. not (p x)) r) r ≡ since p r → take (prefix_len (λ x. not (p x)) (x ∷ r)) (x ∷ r) ≡ since p (x ∷ r)
  at w ih = grind arith

prefix_le : (p : Stretch → Bool) (r : List Stretch) → prefix_len p r ≤ length r
prefix_le p [] = omega arith
prefix_le p (x ∷ r) = grind (arith, prefix_le p r)

drop_turned : (k : ℕ) (r : List Stretch) → k ≤ length r → drop (length r - k) (reverse r) ≡ reverse (take k r)
drop_turned k r h = grind (arith, take-append-drop k r, reverse-append (take k r) (drop k r), length-reverse (drop k r), length-drop k r, drop-append_seam (reverse (drop k r)) (reverse (take k r)))

pub after_last_turned : (p : Stretch → Bool) (r : List Stretch) → after_last p (reverse r) ≡ reverse (since p r)
after_last_turned p r = grind (arith, length-reverse, reverse-reverse, drop_turned, prefix_le, since_take)

-- ---- columns and lines

sum_since : (r : List Stretch) → sum_by stretch_columns (since is_newline r) ≡ column_back r
sum_since [] = refl
sum_since (x ∷ r) = grind (arith, sum_since r, sum_by-cons stretch_columns x (since is_newline r))

pub column_turned : (r : List Stretch) → column (reverse r) ≡ column_back r
column_turned r = ap (λ ys. sum_by stretch_columns ys) (after_last_turned is_newline r) ∙ sum_turned stretch_columns (since is_newline r) ∙ sum_since r

any_since_line : (p : Stretch → Bool) (r : List Stretch) → list_any p (since is_newline r) ≡ any_in_line p r
any_since_line p [] = refl
any_since_line p (x ∷ r) = grind (arith, any_since_line p r)

pub line_turned : (p : Stretch → Bool) (r : List Stretch) → list_any p (line_before (reverse r)) ≡ any_in_line p r
line_turned p r = ap (λ ys. list_any p ys) (after_last_turned is_newline r) ∙ any_turned p (since is_newline r) ∙ any_since_line p r

-- the blanks since the last place in the line
pub count_since : (r : List Stretch) → count_by is_gap (since is_placed (since is_newline r)) ≡ pads_back r
count_since [] = refl
count_since (x ∷ r) = grind (arith, count_since r, sum_by-cons (λ y. cond (is_gap y) 1 0) x (since is_placed (since is_newline r)))

pub padding_turned : (r : List Stretch) → padding (reverse r) ≡ pads_back r
padding_turned r = grind (arith, after_last_turned, sum_turned, count_since)

any_since_place : (r : List Stretch) → list_any opens_body (events_back (since is_placed r)) ≡ body_back r
any_since_place (x ∷ r) = grind (arith, any_since_place r)
any_since_place _ = refl

pub body_turned : (r : List Stretch) → list_any opens_body (events_of (after_last is_placed (reverse r))) ≡ body_back r
body_turned r = grind (arith, after_last_turned, events_turned, any_turned, any_since_place)

-- ---- since the last ink

quiet_since : (r : List Stretch) → EachPassed NoInk r → list_any is_raw_or_ref (events_back (since is_inked_stretch r)) ≡ not (is_quiet r)
quiet_since [] q = refl
quiet_since (x ∷ r) q = grind (arith, quiet_since r)

pub quiet_turned : (r : List Stretch) → EachPassed NoInk r → list_any is_raw_or_ref (events_since_ink (reverse r)) ≡ not (is_quiet r)
quiet_turned r q = grind (arith, after_last_turned, events_turned, any_turned, quiet_since)

-- ---- the lines

-- the column after some stretches that begin at a column
abbrev ahead : ℕ → List Stretch → ℕ
ahead c [] = c
ahead c (x ∷ xs) = ahead (if is_newline x then 0 else (c + stretch_columns x)) xs

record LinesWithin (c bound : ℕ) (lines : List (List Stretch)) : Type 0 where
  line : List Stretch
  others : List (List Stretch)
  is : lines ≡ line ∷ others
  front : c + sum_by stretch_columns line ≤ bound
  rest : All (λ l. sum_by stretch_columns l ≤ bound) others

lines_within : (bound c : ℕ) (xs : List Stretch) → ((a b : List Stretch) → xs ≡ a ++ b → ahead c a ≤ bound) → LinesWithin c bound (slice_split is_newline xs)
lines_within bound c [] h = record { line = []; others = []; is = refl; front = let start : c ≤ bound = h [] [] refl in let none : sum_by stretch_columns [] ≡ 0 = refl in omega arith; rest = All-nil (λ l. sum_by stretch_columns l ≤ bound) }
lines_within bound c (x ∷ xs) h =
    at (by_cases (is_newline x)) (lines_within bound 0 xs) (lines_within bound (c + stretch_columns x) xs) where
      at : (is_newline x ≡ true) ⊎ (is_newline x ≡ false)
          → (((a b : List Stretch) → xs ≡ a ++ b → ahead 0 a ≤ bound) → LinesWithin 0 bound (slice_split is_newline xs))
          → (((a b : List Stretch) → xs ≡ a ++ b → ahead (c + stretch_columns x) a ≤ bound) → LinesWithin (c + stretch_columns x) bound (slice_split is_newline xs))
          → LinesWithin c bound (slice_split is_newline (x ∷ xs))
      at (inl t) zero_ih ih =
          let found : LinesWithin 0 bound (slice_split is_newline xs) = zero_ih (λ a b s. let l : ahead c (x ∷ a) ≤ bound = h (x ∷ a) b (ap (λ ys. x ∷ ys) s) in rw t at l) in
          let start : c ≤ bound = h [] (x ∷ xs) refl in
          let first_line : sum_by stretch_columns found.line ≤ bound = let f : 0 + sum_by stretch_columns found.line ≤ bound = found.front in omega arith in
          record {
            line = [];
            others = slice_split is_newline xs;
            is = rw t refl;
            front = omega arith;
            rest = subst (λ ls. All (λ l. sum_by stretch_columns l ≤ bound) ls) (sym found.is) (All-cons (λ l. sum_by stretch_columns l ≤ bound) found.line found.others first_line found.rest);
          }
      at (inr t) zero_ih ih =
          let found : LinesWithin (c + stretch_columns x) bound (slice_split is_newline xs) = ih (λ a b s. let l : ahead c (x ∷ a) ≤ bound = h (x ∷ a) b (ap (λ ys. x ∷ ys) s) in rw t at l) in
          let more : sum_by stretch_columns (x ∷ found.line) ≡ stretch_columns x + sum_by stretch_columns found.line = sum_by-cons stretch_columns x found.line in
          record { line = x ∷ found.line; others = found.others; is = rw (t, found.is) refl; front = omega arith; rest = found.rest }

ahead_snoc : (c : ℕ) (a : List Stretch) (x : Stretch) → ahead c (a ++ x ∷ []) ≡ (if is_newline x then 0 else (ahead c a + stretch_columns x))
ahead_snoc c [] x = refl
ahead_snoc c (y ∷ a) x = ahead_snoc (if is_newline y then 0 else (c + stretch_columns y)) a x

ahead_back : (r : List Stretch) → ahead 0 (reverse r) ≡ column_back r
ahead_back [] = refl
ahead_back (x ∷ r) = grind (arith, ahead_back r, reverse_cons, ahead_snoc)

front_at : (Q : List Stretch → Type 0) (m r : List Stretch) → EachFront Q (m ++ r) → Q r
front_at Q [] r h = whole_front Q r h
front_at Q (x ∷ m) r h = front_at Q m r h.1

pub lines_bounded : (bound : ℕ) (back : List Stretch) → EachFront (λ r. column_back r ≤ bound) back → All (λ line. sum_by stretch_columns line ≤ bound) (stretch_lines (reverse back))
lines_bounded bound back h =
    let found : LinesWithin 0 bound (stretch_lines (reverse back)) = lines_within bound 0 (reverse back) each in
    let first_line : sum_by stretch_columns found.line ≤ bound = let f : 0 + sum_by stretch_columns found.line ≤ bound = found.front in omega arith in
    subst (λ ls. All (λ l. sum_by stretch_columns l ≤ bound) ls) (sym found.is) (All-cons (λ l. sum_by stretch_columns l ≤ bound) found.line found.others first_line found.rest) where
      each : (a b : List Stretch) → reverse back ≡ a ++ b → ahead 0 a ≤ bound
      each a b s =
          let turned : back ≡ reverse b ++ reverse a = sym (reverse-reverse back) ∙ ap (λ ys. reverse ys) s ∙ reverse-append a b in
          let same : ahead 0 a ≡ column_back (reverse a) = ap (λ ys. ahead 0 ys) (sym (reverse-reverse a)) ∙ ahead_back (reverse a) in
          omega (arith, front_at (λ r. column_back r ≤ bound) (reverse b) (reverse a) (subst (λ ys. EachFront (λ r. column_back r ≤ bound) ys) turned h))

-- the stretches in order, cut at a place, are the page newest first, cut at it
pub turned_at : (back before after : List Stretch) (x : Stretch) → reverse back ≡ before ++ x ∷ after → back ≡ reverse after ++ x ∷ reverse before
turned_at back before after x s = grind (arith, reverse-reverse back, reverse-append before (x ∷ after), reverse_cons x after, append_assoc (reverse after) (x ∷ []) (reverse before))
