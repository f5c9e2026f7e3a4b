-- The values of a note stand in its text.
use Rattle.std.proofs.Common.{◌≡◌, ℕ, ◌==◌, ◌&&◌, ◌⊎◌, inl, inr, Bool, true, false, List, [], ◌∷◌, ◌++◌, All, drop, filter, flat_map, get_or, length, map, refl, sym, ap, ◌∙◌, subst, arith}
use Rattle.std.specs.Char.{is_not_whitespace}
use Rattle.std.specs.Str.{IsAscii, IsUtf8, trim}
use Rattle.std.proofs.Math.Seq.{drop-append_seam, get_or-append_seam, take-append_seam}
use Rattle.std.proofs.lemmas.Bool.{and_parts, eqb-true, false≢true}
use Rattle.std.proofs.lemmas.List.{append-nil, length-append}
use Rattle.std.proofs.lemmas.List.Elements.{All-cons, All-nil, filter-append}
use Rattle.std.proofs.lemmas.Str.{IsCharBoundary-after_ascii, IsCharBoundary-before_ascii, IsUtf8-drop, IsUtf8-from_ascii, IsUtf8-take, chars-IsAscii}
use Rattle.std.proofs.lemmas.Str.Ascii.{IsAscii-cons, IsAscii-nil}
use Rattle.description.specs.Values.{begins_blank, cut, listed_values, on_first}
use Rattle.help_fronts.specs.Laws.{IsTextOf}
use Rattle.help_fronts.proofs.Texts.{all_within, at_end, at_front, within}
use Rattle.drafts.specs.Laws.{ValuesStandInTheirNote, is_no_comma, letters, value_letters}
use Rattle.drafts.proofs.KeptHelps.{letters_append}
use Rattle.drafts.proofs.KeptLetters.{one_more}
use Rattle.drafts.proofs.Trims.{trimmed}

-- values with a comma and a blank between two
abbrev AreListed : (text : List ℕ) → List (List ℕ) → Type 0
AreListed text [] = ⊥
AreListed text (w ∷ ws) = ((text ≡ w) × (ws ≡ [])) ⊎ ((rest : List ℕ) × (text ≡ w ++ (44 ∷ 32 ∷ rest)) × AreListed rest ws)

longer : (b : ℕ) (text : List ℕ) (ws : List (List ℕ)) → AreListed text ws → AreListed (b ∷ text) (on_first (λ w. b ∷ w) ws)
longer b text [] h = absurd h
longer b text (w ∷ ws) (inl e) = inl (ap (λ t. b ∷ t) e.0, e.1)
longer b text (w ∷ ws) (inr (rest, e, more)) = inr (rest, ap (λ t. b ∷ t) e, more)

shorter : (text : List ℕ) (ws : List (List ℕ)) → AreListed (32 ∷ text) ws → AreListed text (on_first (drop 1) ws)
shorter text [] h = absurd h
shorter text (w ∷ ws) (inl e) = inl (ap (drop 1) e.0, e.1)
shorter text ([] ∷ ws) (inr (rest, e, more)) = let first : 32 ≡ 44 = ap (λ t. get_or t 0 0) e in absurd (omega (arith, first))
shorter text ((b ∷ w) ∷ ws) (inr (rest, e, more)) = inr (rest, ap (drop 1) e, more)

blank_is : (text : List ℕ) → begins_blank text ≡ true → text ≡ 32 ∷ drop 1 text
blank_is [] h = absurd (false≢true h)
blank_is (b ∷ bs) h = ap (λ c. c ∷ bs) (eqb-true b 32 h)

listed_are : (text : List ℕ) → AreListed text (listed_values text)
unfolding listed_values
listed_are [] = inl (refl, refl)
listed_are (b ∷ bs) = by (b == 44 && begins_blank bs) refl (listed_are bs) where
  by : (t : Bool) → (b == 44 && begins_blank bs) ≡ t → AreListed bs (listed_values bs) → AreListed (b ∷ bs) (cut t b (listed_values bs))
  by true e h =
      let both = and_parts (b == 44) (begins_blank bs) e in
      let rest : bs ≡ 32 ∷ drop 1 bs = blank_is bs both.1 in
      inr (drop 1 bs, ap (λ c. c ∷ bs) (eqb-true b 44 both.0) ∙ ap (λ t. 44 ∷ t) rest, shorter (drop 1 bs) (listed_values bs) (subst (λ t. AreListed t (listed_values bs)) rest h))
  by false e h = longer b bs (listed_values bs) h

value_utf8 : (w rest : List ℕ) → IsUtf8 (w ++ (44 ∷ rest)) → IsUtf8 w
value_utf8 w rest u =
    let text : List ℕ = w ++ (44 ∷ rest) in
    subst IsUtf8 (take-append_seam w (44 ∷ rest))
    (IsUtf8-take text (length w) u (IsCharBoundary-before_ascii text (length w) (omega (arith, length-append w (44 ∷ rest))) (omega (arith, get_or-append_seam w 44 rest 0))))

rest_utf8 : (w rest : List ℕ) → IsUtf8 (w ++ (44 ∷ 32 ∷ rest)) → IsUtf8 rest
rest_utf8 w rest u =
    let text : List ℕ = w ++ (44 ∷ 32 ∷ rest) in
    let end : List ℕ = 44 ∷ 32 ∷ rest in
    let end_utf8 : IsUtf8 end =
    subst IsUtf8 (drop-append_seam w end)
    (IsUtf8-drop text (length w) u (IsCharBoundary-before_ascii text (length w) (omega (arith, length-append w end)) (omega (arith, get_or-append_seam w 44 (32 ∷ rest) 0)))) in
    IsUtf8-drop end 2 end_utf8 (IsCharBoundary-after_ascii end 1 end_utf8 (omega arith) (omega arith))

values_stand : (ws : List (List ℕ)) (text : List ℕ) → IsUtf8 text → AreListed text ws → All (IsTextOf text) (map trim ws)
values_stand [] text u h = absurd h
values_stand (w ∷ ws) text u (inl e) =
    subst (λ vs. All (IsTextOf text) (trim w ∷ map trim vs)) (sym e.1)
    (All-cons (IsTextOf text) (trim w) [] (subst (λ t. IsTextOf t (trim w)) (sym e.0) (trimmed w (subst IsUtf8 e.0 u)).stands) (All-nil (IsTextOf text)))
values_stand (w ∷ ws) text u (inr (rest, e, more)) =
    let v = subst IsUtf8 e u in
    let own : IsTextOf text w = subst (λ t. IsTextOf t w) (sym e) (at_front w (44 ∷ 32 ∷ rest)) in
    let others : IsTextOf text rest = subst (λ t. IsTextOf t rest) (sym e) (within (w ++ (44 ∷ 32 ∷ rest)) (44 ∷ 32 ∷ rest) rest (at_end w (44 ∷ 32 ∷ rest)) (at_end (44 ∷ 32 ∷ []) rest)) in
    All-cons (IsTextOf text) (trim w) (map trim ws) (within text w (trim w) own (trimmed w (value_utf8 w (32 ∷ rest) v)).stands)
    (all_within text rest others (map trim ws) (values_stand ws rest (rest_utf8 w rest v) more))

-- ---- their letters

append_letters : (xs ys : List ℕ) → IsUtf8 xs → value_letters (xs ++ ys) ≡ value_letters xs ++ value_letters ys
append_letters xs ys u = ap (filter is_no_comma) (letters_append xs ys u) ∙ filter-append is_no_comma (letters xs) (letters ys)

separator_ascii : IsAscii (44 ∷ 32 ∷ [])
separator_ascii = IsAscii-cons 44 (32 ∷ []) (omega arith) (IsAscii-cons 32 [] (omega arith) IsAscii-nil)

after_separator : (rest : List ℕ) → value_letters (44 ∷ 32 ∷ rest) ≡ value_letters rest
after_separator rest =
    append_letters (44 ∷ 32 ∷ []) rest (IsUtf8-from_ascii (44 ∷ 32 ∷ []) separator_ascii)
    ∙ ap (λ cs. filter is_no_comma (filter is_not_whitespace cs) ++ value_letters rest) (chars-IsAscii (44 ∷ 32 ∷ []) separator_ascii)

trimmed_letters : (w : List ℕ) → IsUtf8 w → value_letters (trim w) ≡ value_letters w
trimmed_letters w u = ap (filter is_no_comma) (trimmed w u).whole

values_whole : (ws : List (List ℕ)) (text : List ℕ) → IsUtf8 text → AreListed text ws → flat_map value_letters (map trim ws) ≡ value_letters text
values_whole [] text u h = absurd h
values_whole (w ∷ ws) text u (inl e) =
    ap (λ vs. value_letters (trim w) ++ flat_map value_letters (map trim vs)) e.1 ∙ append-nil (value_letters (trim w)) ∙ trimmed_letters w (subst IsUtf8 e.0 u) ∙ ap value_letters (sym e.0)
values_whole (w ∷ ws) text u (inr (rest, e, more)) =
    let v = subst IsUtf8 e u in
    let own : IsUtf8 w = value_utf8 w (32 ∷ rest) v in
    one_more (value_letters (trim w)) (value_letters w) (flat_map value_letters (map trim ws)) (value_letters rest) (trimmed_letters w own) (values_whole ws rest (rest_utf8 w rest v) more)
    ∙ ap (λ t. value_letters w ++ t) (sym (after_separator rest)) ∙ sym (append_letters w (44 ∷ 32 ∷ rest) own) ∙ ap value_letters (sym e)

pub values_stand_in_their_note : ValuesStandInTheirNote
values_stand_in_their_note text u = record {
  stand = values_stand (listed_values text) text u (listed_are text);
  whole = values_whole (listed_values text) text u (listed_are text);
}
