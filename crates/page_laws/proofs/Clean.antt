-- Texts of characters that pass a test: joined, and cut beside a byte of ASCII, they are such texts again.
use Rattle.std.proofs.Common.{◌≡◌, ◌⊎◌, ℕ, zero, suc, ◌<◌, ◌≤◌, Bool, true, false, ◌&&◌, List, [], ◌∷◌, ◌++◌, length, get_or, take, drop, replicate, map, nat_lt, refl, sym, ap, ap₂, ◌∙◌, subst, append_assoc, append-nil, add-one, arith, inl, inr}
use Rattle.std.specs.Prelude.{◌==◌, if◌then◌else◌}
use Rattle.std.specs.List.{list_all, prefix_len, onto_first, slice_split}
use Rattle.std.specs.Str.{IsAscii, IsCharBoundary, IsUtf8, chars, drop_trailing_whitespace, encode_utf8_all, trim_end}
use Rattle.std.specs.Char.{encode_utf8, is_whitespace}
use Rattle.std.proofs.Math.Seq.{get_or-append_seam, take-append_seam, drop-append_seam}
use Rattle.std.proofs.lemmas.Bool.{and_from, and_parts, cases_lt}
use Rattle.std.proofs.lemmas.Bool.Decides.{nat_tests}
use Rattle.std.proofs.lemmas.List.{length-append, map-append, take-append-drop, take_all}
use Rattle.std.proofs.lemmas.List.Folds.{list_all-append}
use Rattle.std.proofs.lemmas.List.Sums.{prefix_len-le-length, prefix_len_passes}
use Rattle.std.proofs.lemmas.Str.{IsCharBoundary-after_ascii, IsCharBoundary-before_ascii, IsCharBoundary-start, IsUtf8-append, IsUtf8-drop, IsUtf8-from_ascii, IsUtf8-nil, IsUtf8-take, chars-IsAscii, chars-append, chars-encodes, chars-nil, encode_ascii, encodes-chars, inside_one, scalars-chars}
use Rattle.std.proofs.Math.Utf8.{low_scalar, scalar, scalars}
use Rattle.page_laws.proofs.Each.{Each}

-- UTF-8, each character of which passes
pub record Clean (good : ℕ → Bool) (text : List ℕ) : Type 0 where
  pub utf8 : IsUtf8 text
  pub characters : list_all good (chars text) ≡ true

pub weaker : (good other : ℕ → Bool) → ((c : ℕ) → good c ≡ true → other c ≡ true) → (cs : List ℕ) → list_all good cs ≡ true → list_all other cs ≡ true
weaker good other k [] h = refl
weaker good other k (c ∷ cs) h = let both = and_parts (good c) (list_all good cs) h in and_from (other c) (list_all other cs) (k c both.0) (weaker good other k cs both.1)

pub clean_weaker : (good other : ℕ → Bool) → ((c : ℕ) → good c ≡ true → other c ≡ true) → (text : List ℕ) → Clean good text → Clean other text
clean_weaker good other k text h = record { utf8 = h.utf8; characters = weaker good other k (chars text) h.characters }

-- a byte of ASCII that passes
abbrev pub is_low : (ℕ → Bool) → ℕ → Bool
is_low good b = nat_lt b 128 && good b

low_below : (good : ℕ → Bool) (b : ℕ) → is_low good b ≡ true → b < 128
low_below good b h = let both = and_parts (nat_lt b 128) (good b) h in below both.0 where
  below : nat_lt b 128 ≡ true → b < 128
  below e = grind (arith, nat_tests)

all_ascii : (good : ℕ → Bool) (text : List ℕ) → list_all (is_low good) text ≡ true → IsAscii text
all_ascii good [] h i = omega arith
all_ascii good (b ∷ text) h zero = low_below good b (and_parts (is_low good b) (list_all (is_low good) text) h).0
all_ascii good (b ∷ text) h (suc i) = all_ascii good text (and_parts (is_low good b) (list_all (is_low good) text) h).1 i

low_passes : (good : ℕ → Bool) (b : ℕ) → is_low good b ≡ true → good b ≡ true
low_passes good b h = (and_parts (nat_lt b 128) (good b) h).1

-- ---- without the white space at the end

left_by : (good : ℕ → Bool) (t : Bool) (c : ℕ) (cs : List ℕ) → good c ≡ true → list_all good cs ≡ true → list_all good (if t then [] else c ∷ cs) ≡ true
left_by good true c cs h k = refl
left_by good false c cs h k = and_from (good c) (list_all good cs) h k

left_pass : (good : ℕ → Bool) (cs : List ℕ) → list_all good cs ≡ true → list_all good (drop_trailing_whitespace cs) ≡ true
left_pass good [] h = refl
left_pass good (c ∷ cs) h =
    let both = and_parts (good c) (list_all good cs) h in
    left_by good (is_whitespace c && (length (drop_trailing_whitespace cs) == 0)) c (drop_trailing_whitespace cs) both.0 (left_pass good cs both.1)

each_scalar : (cs : List ℕ) → scalars cs ≡ list_all scalar cs
each_scalar [] = refl
each_scalar (c ∷ cs) = ap (λ t. scalar c && t) (each_scalar cs)

left_scalars : (cs : List ℕ) → scalars cs ≡ true → scalars (drop_trailing_whitespace cs) ≡ true
left_scalars cs h = each_scalar (drop_trailing_whitespace cs) ∙ left_pass scalar cs (sym (each_scalar cs) ∙ h)

pub clean_trimmed : (good : ℕ → Bool) (text : List ℕ) → Clean good text → Clean good (trim_end text)
unfolding trim_end
clean_trimmed good text h =
    let cs : List ℕ = drop_trailing_whitespace (chars text) in
    let all = left_scalars (chars text) (scalars-chars text h.utf8) in
    record { utf8 = (cs, (all, refl)); characters = ap (list_all good) (chars-encodes cs all) ∙ left_pass good (chars text) h.characters }

module _ (good : ℕ → Bool) where
  pub clean_nil : Clean good []
  clean_nil = record { utf8 = IsUtf8-nil; characters = ap (list_all good) chars-nil }

  -- of a fixed text, by `refl`
  pub clean_low : (text : List ℕ) → list_all (is_low good) text ≡ true → Clean good text
  clean_low text h =
      let ascii = all_ascii good text h in
      record { utf8 = IsUtf8-from_ascii text ascii; characters = ap (list_all good) (chars-IsAscii text ascii) ∙ weaker (is_low good) good (low_passes good) text h }

  pub clean_append : (x y : List ℕ) → Clean good x → Clean good y → Clean good (x ++ y)
  clean_append x y h k = record {
    utf8 = IsUtf8-append x y h.utf8 k.utf8;
    characters = ap (list_all good) (chars-append x y h.utf8) ∙ list_all-append good (chars x) (chars y) ∙ and_from (list_all good (chars x)) (list_all good (chars y)) h.characters k.characters;
  }

  -- ---- cuts

  pub record Halves (x y : List ℕ) : Type 0 where
    pub front : Clean good x
    pub back : Clean good y

  halves : (x y : List ℕ) → IsUtf8 x → IsUtf8 y → Clean good (x ++ y) → Halves x y
  halves x y u v h =
      let both = and_parts (list_all good (chars x)) (list_all good (chars y)) (sym (list_all-append good (chars x) (chars y)) ∙ sym (ap (list_all good) (chars-append x y u)) ∙ h.characters) in
      record { front = record { utf8 = u; characters = both.0 }; back = record { utf8 = v; characters = both.1 } }

  cut_parts : (text : List ℕ) (at : ℕ) → IsCharBoundary text at → Clean good text → Halves (take at text) (drop at text)
  cut_parts text at boundary h =
      halves (take at text) (drop at text) (IsUtf8-take text at h.utf8 boundary) (IsUtf8-drop text at h.utf8 boundary) (subst (Clean good) (sym (take-append-drop at text)) h)

  pub clean_take : (text : List ℕ) (at : ℕ) → IsCharBoundary text at → Clean good text → Clean good (take at text)
  clean_take text at boundary h = (cut_parts text at boundary h).front

  pub clean_drop : (text : List ℕ) (at : ℕ) → IsCharBoundary text at → Clean good text → Clean good (drop at text)
  clean_drop text at boundary h = (cut_parts text at boundary h).back

  seam : (x y : List ℕ) → IsCharBoundary (x ++ y) (length x) → Clean good (x ++ y) → Halves x y
  seam x y boundary h = record {
    front = subst (Clean good) (take-append_seam x y) (clean_take (x ++ y) (length x) boundary h);
    back = subst (Clean good) (drop-append_seam x y) (clean_drop (x ++ y) (length x) boundary h);
  }

  -- in front of a byte of ASCII
  pub cut_before : (x : List ℕ) (a : ℕ) (y : List ℕ) → a < 128 → Clean good (x ++ a ∷ y) → Halves x (a ∷ y)
  cut_before x a y small h =
      let at : get_or (x ++ a ∷ y) (length x) 0 ≡ a = get_or-append_seam x a y 0 in
      let long = length-append x (a ∷ y) in
      seam x (a ∷ y) (IsCharBoundary-before_ascii (x ++ a ∷ y) (length x) (omega arith) (omega arith)) h

  alone : (a : ℕ) (y : List ℕ) → a < 128 → Clean good (a ∷ y) → Halves (a ∷ []) y
  alone a y small h = seam (a ∷ []) y (IsCharBoundary-after_ascii (a ∷ y) 0 h.utf8 (omega arith) small) h

  -- after it
  pub cut_after : (x : List ℕ) (a : ℕ) (y : List ℕ) → a < 128 → Clean good (x ++ a ∷ y) → Halves (x ++ a ∷ []) y
  cut_after x a y small h =
      let before = cut_before x a y small h in
      let after = alone a y small before.back in
      record { front = clean_append x (a ∷ []) before.front after.front; back = after.back }

  -- without it
  pub cut_out : (x : List ℕ) (a : ℕ) (y : List ℕ) → a < 128 → Clean good (x ++ a ∷ y) → Halves x y
  cut_out x a y small h = record { front = (cut_before x a y small h).front; back = (cut_after x a y small h).back }

  -- the next byte counts as part of what stands before
  pub next : (p : List ℕ) (b : ℕ) (text : List ℕ) → Clean good (p ++ b ∷ text) → Clean good ((p ++ b ∷ []) ++ text)
  next p b text h = subst (Clean good) (sym (append_assoc p (b ∷ []) text)) h

  pub back_again : (p : List ℕ) (b : ℕ) (text : List ℕ) → Clean good ((p ++ b ∷ []) ++ text) → Clean good (p ++ b ∷ text)
  back_again p b text h = subst (Clean good) (append_assoc p (b ∷ []) text) h

  pub whole : (p : List ℕ) → Clean good (p ++ []) → Clean good p
  whole p h = subst (Clean good) (append-nil p) h

  pub as_whole : (p : List ℕ) → Clean good p → Clean good (p ++ [])
  as_whole p h = subst (Clean good) (sym (append-nil p)) h

  -- ---- parts of a text, of which the first follows another text

  abbrev pub Parts : List ℕ → List (List ℕ) → Type 0
  Parts p [] = Clean good p
  Parts p (part ∷ parts) = Clean good (p ++ part) × Each (Clean good) parts

  pub each_part : (parts : List (List ℕ)) → Parts [] parts → Each (Clean good) parts
  each_part [] h = tt
  each_part (part ∷ parts) h = h

  pub onto_part : (p : List ℕ) (b : ℕ) (parts : List (List ℕ)) → Parts (p ++ b ∷ []) parts → Parts p (onto_first b parts)
  onto_part p b [] h = (h, tt)
  onto_part p b (part ∷ parts) h = (back_again p b part h.0, h.1)

  pub new_part : (p : List ℕ) (parts : List (List ℕ)) → Clean good p → Parts [] parts → Parts p ([] ∷ parts)
  new_part p parts h k = (as_whole p h, each_part parts k)

  -- a byte at which a text may be cut, before what was cut already
  pub split_step : (is_cut : Bool) (p : List ℕ) (b : ℕ) (text : List ℕ) (parts : List (List ℕ)) → (is_cut ≡ true → b < 128) → ((r : List ℕ) → Clean good (r ++ text) → Parts r parts) → Clean good (p ++ b ∷ text)
      → Parts p (if is_cut then [] ∷ parts else onto_first b parts)
  split_step true p b text parts small after h = let cut = cut_out p b text (small refl) h in new_part p parts cut.front (after [] cut.back)
  split_step false p b text parts small after h = onto_part p b parts (after (p ++ b ∷ []) (next p b text h))

  pub clean_if : (t : Bool) (x y : List ℕ) → Clean good x → Clean good y → Clean good (if t then x else y)
  clean_if true x y h k = h
  clean_if false x y h k = k

  -- ---- what a test passes at the front or at the back, where each such byte is of ASCII

  module _ (test : ℕ → Bool) (ascii : (c : ℕ) → test c ≡ true → c < 128) where
    front_boundary : (text : List ℕ) (n : ℕ) → IsUtf8 text → n ≤ prefix_len test text → IsCharBoundary text n
    front_boundary text zero u h = IsCharBoundary-start text u
    front_boundary text (suc n) u h =
        let le : prefix_len test text ≤ length text = prefix_len-le-length test text in
        subst (IsCharBoundary text) (add-one n) (IsCharBoundary-after_ascii text n u (omega arith) (ascii (get_or text n 0) (prefix_len_passes test text n 0 (omega arith))))

    pub clean_after_front : (text : List ℕ) (n : ℕ) → n ≤ prefix_len test text → Clean good text → Clean good (drop n text)
    clean_after_front text n h k = clean_drop text n (front_boundary text n k.utf8 h) k

    pub clean_up_to : (text : List ℕ) (n : ℕ) → n ≤ prefix_len test text → Clean good text → Clean good (take n text)
    clean_up_to text n h k = clean_take text n (front_boundary text n k.utf8 h) k

    -- up to a place at which such a byte stands, or at the end
    pub clean_before : (text : List ℕ) (n : ℕ) → n ≤ length text → (n < length text → test (get_or text n 0) ≡ true) → Clean good text → Clean good (take n text)
    clean_before text n le h k = by (cases_lt n (length text)) where
      by : (n < length text) ⊎ (length text ≤ n) → Clean good (take n text)
      by (inl less) = clean_take text n (IsCharBoundary-before_ascii text n less (ascii (get_or text n 0) (h less))) k
      by (inr more) = subst (Clean good) (sym (take_all n text more)) k

    split_after : (p text : List ℕ) → Clean good (p ++ text) → Parts p (slice_split test text)
    split_after p [] h = (h, tt)
    split_after p (b ∷ text) h = split_step (test b) p b text (slice_split test text) (ascii b) (λ r k. split_after r text k) h

    pub each_split : (text : List ℕ) → Clean good text → Each (Clean good) (slice_split test text)
    each_split text h = each_part (slice_split test text) (split_after [] text h)

  pub clean_repeated : (n b : ℕ) → is_low good b ≡ true → Clean good (replicate n b)
  clean_repeated zero b h = clean_nil
  clean_repeated (suc n) b h = clean_append (b ∷ []) (replicate n b) (clean_low (b ∷ []) (and_from (is_low good b) true h refl)) (clean_repeated n b h)

-- ---- each byte replaced, where one of ASCII becomes one, and any other stays

module _ (f : ℕ → ℕ) (high : (b : ℕ) → 128 ≤ b → f b ≡ b) (low : (b : ℕ) → b < 128 → f b < 128) where
  map_high : (bs : List ℕ) → ((k : ℕ) → k < length bs → 128 ≤ get_or bs k 0) → map f bs ≡ bs
  map_high [] h = refl
  map_high (b ∷ bs) h = ap (λ c. c ∷ map f bs) (high b (h 0 (omega arith))) ∙ ap (λ cs. b ∷ cs) (map_high bs (λ k l. h (suc k) (omega arith)))

  bytes_high : (c : ℕ) → 128 ≤ c → (k : ℕ) → k < length (encode_utf8 c) → 128 ≤ get_or (encode_utf8 c) k 0
  bytes_high c h k l = by (cases_lt (get_or (encode_utf8 c) k 0) 128) where
    by : (get_or (encode_utf8 c) k 0 < 128) ⊎ (128 ≤ get_or (encode_utf8 c) k 0) → 128 ≤ get_or (encode_utf8 c) k 0
    by (inl small) = absurd (let same = inside_one c [] (encode_utf8 c) k (sym (append-nil (encode_utf8 c))) l small in omega arith)
    by (inr big) = big

  map_encode : (c : ℕ) → map f (encode_utf8 c) ≡ encode_utf8 (f c)
  map_encode c = by (cases_lt c 128) where
    by : (c < 128) ⊎ (128 ≤ c) → map f (encode_utf8 c) ≡ encode_utf8 (f c)
    by (inl small) = ap (map f) (encode_ascii c small) ∙ sym (encode_ascii (f c) (low c small))
    by (inr big) = map_high (encode_utf8 c) (bytes_high c big) ∙ ap encode_utf8 (sym (high c big))

  map_encodes : (cs : List ℕ) → map f (encode_utf8_all cs) ≡ encode_utf8_all (map f cs)
  map_encodes [] = refl
  map_encodes (c ∷ cs) = map-append f (encode_utf8 c) (encode_utf8_all cs) ∙ ap₂ (λ x y. x ++ y) (map_encode c) (map_encodes cs)

  scalar_mapped : (c : ℕ) → scalar c ≡ true → scalar (f c) ≡ true
  scalar_mapped c h = by (cases_lt c 128) where
    by : (c < 128) ⊎ (128 ≤ c) → scalar (f c) ≡ true
    by (inl small) = let is = low c small in low_scalar (f c) (omega arith)
    by (inr big) = ap scalar (high c big) ∙ h

  scalars_mapped : (cs : List ℕ) → scalars cs ≡ true → scalars (map f cs) ≡ true
  scalars_mapped [] h = refl
  scalars_mapped (c ∷ cs) h = let both = and_parts (scalar c) (scalars cs) h in and_from (scalar (f c)) (scalars (map f cs)) (scalar_mapped c both.0) (scalars_mapped cs both.1)

  module _ (good other : ℕ → Bool) (keeps : (c : ℕ) → good c ≡ true → other (f c) ≡ true) where
    pass_mapped : (cs : List ℕ) → list_all good cs ≡ true → list_all other (map f cs) ≡ true
    pass_mapped [] h = refl
    pass_mapped (c ∷ cs) h = let both = and_parts (good c) (list_all good cs) h in and_from (other (f c)) (list_all other (map f cs)) (keeps c both.0) (pass_mapped cs both.1)

    pub clean_mapped : (text : List ℕ) → Clean good text → Clean other (map f text)
    clean_mapped text h =
        let cs : List ℕ = chars text in
        let all : scalars (map f cs) ≡ true = scalars_mapped cs (scalars-chars text h.utf8) in
        let spelled : encode_utf8_all (map f cs) ≡ map f text = sym (map_encodes cs) ∙ ap (map f) (encodes-chars text h.utf8) in
        record { utf8 = (map f cs, (all, spelled)); characters = ap (λ bs. list_all other (chars bs)) (sym spelled) ∙ ap (list_all other) (chars-encodes (map f cs) all) ∙ pass_mapped cs h.characters }
