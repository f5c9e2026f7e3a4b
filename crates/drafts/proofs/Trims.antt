-- A text without white space at its ends is a text of it, and has all its letters.
use Rattle.std.proofs.Common.{◌≡◌, ℕ, Bool, true, false, cond, ◌&&◌, List, [], ◌∷◌, ◌++◌, length, refl, sym, ap, ◌∙◌, arith, filter, not}
use Rattle.std.specs.Prelude.{◌==◌, chars, encode_utf8_all}
use Rattle.std.specs.Char.{is_not_whitespace, is_whitespace}
use Rattle.std.specs.Str.{IsUtf8, all_scalars, drop_trailing_whitespace, skip_leading_whitespace, trim, trim_end, trim_start}
use Rattle.std.proofs.lemmas.Bool.{and_parts}
use Rattle.std.proofs.lemmas.Bool.Decides.{nat_tests}
use Rattle.std.proofs.lemmas.List.{append-nil, nil_from_length}
use Rattle.std.proofs.lemmas.List.Elements.{filter-append}
use Rattle.std.proofs.lemmas.Str.{chars-encodes, encodes-append}
use Rattle.help_fronts.specs.Laws.{IsTextOf}
use Rattle.help_fronts.proofs.Texts.{within}
use Rattle.drafts.specs.Laws.{letters}

-- some of the characters of a text, with white space before and after them
record IsCutOf (cs ds : List ℕ) : Type 0 where
  before : List ℕ
  after : List ℕ
  whole : cs ≡ before ++ (ds ++ after)
  blank_before : filter is_not_whitespace before ≡ []
  blank_after : filter is_not_whitespace after ≡ []

pub left_out : (c : ℕ) (cs : List ℕ) → is_whitespace c ≡ true → filter is_not_whitespace cs ≡ [] → filter is_not_whitespace (c ∷ cs) ≡ []
left_out c cs e h = ap (λ b. cond (not b) (c ∷ filter is_not_whitespace cs) (filter is_not_whitespace cs)) e ∙ h

front_cut : (cs : List ℕ) → IsCutOf cs (skip_leading_whitespace cs)
front_cut [] = record { before = []; after = []; whole = refl; blank_before = refl; blank_after = refl }
front_cut (c ∷ cs) = by (is_whitespace c) refl (front_cut cs) where
  by : (t : Bool) → is_whitespace c ≡ t → IsCutOf cs (skip_leading_whitespace cs) → IsCutOf (c ∷ cs) (cond t (skip_leading_whitespace cs) (c ∷ cs))
  by true e h = record { before = c ∷ h.before; after = h.after; whole = ap (λ t. c ∷ t) h.whole; blank_before = left_out c h.before e h.blank_before; blank_after = h.blank_after }
  by false e h = record { before = []; after = []; whole = sym (append-nil (c ∷ cs)); blank_before = refl; blank_after = refl }

-- white space alone
all_blank : (cs : List ℕ) → (after : List ℕ) → cs ≡ drop_trailing_whitespace cs ++ after → filter is_not_whitespace after ≡ [] → length (drop_trailing_whitespace cs) ≡ 0 → filter is_not_whitespace cs ≡ []
all_blank cs after whole blank none =
    ap (filter is_not_whitespace) (whole ∙ ap (λ t. t ++ after) (nil_from_length (drop_trailing_whitespace cs) none)) ∙ blank

pub is_nothing : (n : ℕ) → (n == 0) ≡ true → n ≡ 0
is_nothing n h = grind (arith, nat_tests)

record IsFrontCut (cs ds : List ℕ) : Type 0 where
  after : List ℕ
  whole : cs ≡ ds ++ after
  blank : filter is_not_whitespace after ≡ []

end_cut : (cs : List ℕ) → IsFrontCut cs (drop_trailing_whitespace cs)
end_cut [] = record { after = []; whole = refl; blank = refl }
end_cut (c ∷ cs) = by (is_whitespace c && length (drop_trailing_whitespace cs) == 0) refl (end_cut cs) where
  by : (t : Bool) → (is_whitespace c && length (drop_trailing_whitespace cs) == 0) ≡ t → IsFrontCut cs (drop_trailing_whitespace cs) → IsFrontCut (c ∷ cs) (cond t [] (c ∷ drop_trailing_whitespace cs))
  by true e h =
      let both = and_parts (is_whitespace c) (length (drop_trailing_whitespace cs) == 0) e in
      record { after = c ∷ cs; whole = refl; blank = left_out c cs both.0 (all_blank cs h.after h.whole h.blank (is_nothing (length (drop_trailing_whitespace cs)) both.1)) }
  by false e h = record { after = h.after; whole = ap (λ t. c ∷ t) h.whole; blank = h.blank }

scalar_parts : (xs ys : List ℕ) → all_scalars (xs ++ ys) ≡ true → (all_scalars xs ≡ true) × (all_scalars ys ≡ true)
scalar_parts [] ys h = (refl, h)
scalar_parts (x ∷ xs) ys h =
    let both = and_parts _ (all_scalars (xs ++ ys)) h in
    let rest = scalar_parts xs ys both.1 in
    (ap (λ b. b && all_scalars xs) both.0 ∙ rest.0, rest.1)

-- a text of a line, in UTF-8 and with all its letters
pub record IsTrimOf (line text : List ℕ) : Type 0 where
  pub stands : IsTextOf line text
  pub utf8 : IsUtf8 text
  pub whole : letters text ≡ letters line

same_ink : (cs ds : List ℕ) → IsCutOf cs ds → filter is_not_whitespace ds ≡ filter is_not_whitespace cs
same_ink cs ds cut =
    let ink : List ℕ → List ℕ = filter is_not_whitespace in
    sym
    (ap ink cut.whole ∙ filter-append is_not_whitespace cut.before (ds ++ cut.after) ∙ ap (λ t. t ++ ink (ds ++ cut.after)) cut.blank_before ∙ filter-append is_not_whitespace ds cut.after
    ∙ ap (λ t. ink ds ++ t) cut.blank_after ∙ append-nil (ink ds))

letters_are : (text cs : List ℕ) → all_scalars cs ≡ true → encode_utf8_all cs ≡ text → letters text ≡ filter is_not_whitespace cs
letters_are text cs scalars spelled = ap (filter is_not_whitespace) (ap chars (sym spelled) ∙ chars-encodes cs scalars)

cut_text : (line text cs ds : List ℕ) → all_scalars cs ≡ true → encode_utf8_all cs ≡ line → text ≡ encode_utf8_all ds → IsCutOf cs ds → IsTrimOf line text
cut_text line text cs ds scalars spelled is cut =
    let parts = scalar_parts cut.before (ds ++ cut.after) (sym (ap all_scalars cut.whole) ∙ scalars) in
    let own : all_scalars ds ≡ true = (scalar_parts ds cut.after parts.1).0 in
    record {
      stands = record {
        before = encode_utf8_all cut.before;
        after = encode_utf8_all cut.after;
        whole =
            sym spelled ∙ ap encode_utf8_all cut.whole ∙ encodes-append cut.before (ds ++ cut.after) ∙ ap (λ t. encode_utf8_all cut.before ++ t) (encodes-append ds cut.after)
            ∙ ap (λ t. encode_utf8_all cut.before ++ (t ++ encode_utf8_all cut.after)) (sym is);
      };
      utf8 = (ds, (own, sym is));
      whole = letters_are text ds own (sym is) ∙ same_ink cs ds cut ∙ sym (letters_are line cs scalars spelled);
    }

start_is : (line cs : List ℕ) → all_scalars cs ≡ true → encode_utf8_all cs ≡ line → trim_start line ≡ encode_utf8_all (skip_leading_whitespace cs)
unfolding trim_start
start_is line cs scalars spelled = ap (λ ds. encode_utf8_all (skip_leading_whitespace ds)) (ap chars (sym spelled) ∙ chars-encodes cs scalars)

end_is : (line cs : List ℕ) → all_scalars cs ≡ true → encode_utf8_all cs ≡ line → trim_end line ≡ encode_utf8_all (drop_trailing_whitespace cs)
unfolding trim_end
end_is line cs scalars spelled = ap (λ ds. encode_utf8_all (drop_trailing_whitespace ds)) (ap chars (sym spelled) ∙ chars-encodes cs scalars)

start_stands : (line : List ℕ) → IsUtf8 line → IsTrimOf line (trim_start line)
start_stands line u = cut_text line (trim_start line) u.0 (skip_leading_whitespace u.0) u.1.0 u.1.1 (start_is line u.0 u.1.0 u.1.1) (front_cut u.0)

pub end_trimmed : (line : List ℕ) → IsUtf8 line → IsTrimOf line (trim_end line)
end_trimmed line u =
    let cut = end_cut u.0 in
    cut_text line (trim_end line) u.0 (drop_trailing_whitespace u.0) u.1.0 u.1.1 (end_is line u.0 u.1.0 u.1.1) (record { before = []; after = cut.after; whole = cut.whole; blank_before = refl; blank_after = cut.blank })

-- a text without white space at its end
pub record IsEndOf (line text : List ℕ) : Type 0 where
  pub after : List ℕ
  pub whole : line ≡ text ++ after
  pub is_white : letters after ≡ []

pub end_left : (line : List ℕ) → IsUtf8 line → IsEndOf line (trim_end line)
end_left line u =
    let cut = end_cut u.0 in
    let own = drop_trailing_whitespace u.0 in
    let parts = scalar_parts own cut.after (sym (ap all_scalars cut.whole) ∙ u.1.0) in
    let same : trim_end line ≡ encode_utf8_all own = end_is line u.0 u.1.0 u.1.1 in
    record {
      after = encode_utf8_all cut.after;
      whole = sym u.1.1 ∙ ap encode_utf8_all cut.whole ∙ encodes-append own cut.after ∙ ap (λ t. t ++ encode_utf8_all cut.after) (sym same);
      is_white = letters_are (encode_utf8_all cut.after) cut.after parts.1 refl ∙ cut.blank;
    }

pub trimmed : (line : List ℕ) → IsUtf8 line → IsTrimOf line (trim line)
trimmed line u =
    let start = start_stands line u in
    let end = end_trimmed (trim_start line) start.utf8 in
    record { stands = within line (trim_start line) (trim line) start.stands end.stands; utf8 = end.utf8; whole = end.whole ∙ start.whole }
