-- How a line is read, with what guards its front and its end.
use Rattle.std.proofs.Common.{◌≡◌, ◌≤◌, ℕ, suc, arith, Bool, true, false, not, ◌&&◌, ◌||◌, List, [], ◌∷◌, ◌++◌, refl, sym, ap, ◌∙◌, subst, inl, inr, append-nil}
use Rattle.std.specs.Prelude.{Option, Some, None, codes, map, ◌==◌, nat_le, if◌then◌else◌}
use Rattle.std.specs.List.{list_all, list_any}
use Rattle.std.proofs.lemmas.Bool.{and_from, ne_eqb, eqb-true}
use Rattle.std.proofs.Math.Bool.{and-true}
use Rattle.page_model.specs.Content.{Line, TargetSaid}
use Rattle.page_model.specs.Permitted.{is_permitted_byte, is_permitted_line}
use Rattle.markdown_page.specs.Bytes.{graves, is_letter, holds_definition, is_digit, is_grave, is_word}
use Rattle.markdown_page.specs.Sheet.{Glyph}
use Rattle.markdown_page.specs.Kept.{dash, line_shown, plain, seen, terms_shown}
use Rattle.markdown_page.specs.Exact.{escaped, framed, guarded, kept_blank, line_text, mark_if, terms_text, title_text, wants_mark, with_end, written}
use Rattle.markdown_page.specs.Reader
use Rattle.markdown_page.specs.Reader.{Address, Ampersand, Auto, Before, Bracket, Entity, Escape, Inlines, Mode, Number, Opening, Other, Span, Text, Underscore, before_of, after_span, begins_in_blank, code_glyph, end_of_line, ends_in_blank, inlines, is_block_mark, is_control, is_fence, is_numbered, is_text_line, is_within_link, kind_of, TextLine, last_or, next_byte, plain_glyph, shows, start_of_line, text_byte_if, unpadded}
use Rattle.markdown_page.proofs.Bools.{bool_cases, digit_range, not_false, or_cases, or_from}
use Rattle.markdown_page.proofs.Texts.{at, finish, plain_next, run, text_reads, word_control, word_is_plain}
use Rattle.markdown_page.proofs.Spans.{no_grave_first}
use Rattle.markdown_page.proofs.Pieces.{LineReaches, escaped_free, dashed_reaches, pieces_reach, terms_reach}
use Rattle.markdown_page.proofs.Fronts.{AreAlike, alike_both, free_alike, is_nil, pieces_alike, pieces_fence, terms_alike, terms_fence}

-- ---- what follows a line: a backslash, where a line break comes

abbrev pub tail : Bool → List ℕ
tail true = codes "\\"
tail false = []

nothing_stays : (heading : Bool) (bytes : List ℕ) → run heading None bytes ≡ None
nothing_stays heading [] = refl
nothing_stays heading (b ∷ bytes) = nothing_stays heading bytes

nothing_shows : {X : Type 0} (heading : Bool) (bytes : List ℕ) (x : Inlines) → finish heading None bytes ≡ Some x → X
nothing_shows heading bytes x e = let none : finish heading None bytes ≡ None = ap end_of_line (nothing_stays heading bytes) in absurd cc

-- a span that is open does not end there
open_end : {X : Type 0} (heading : Bool) (outside : Option (List Glyph)) (shown : List Glyph) (n : ℕ) (text : List ℕ) (x : Inlines) → finish heading (at outside shown (Span n text 0)) [] ≡ Some x → X
open_end heading (Some outside) shown n text x e = absurd cc
open_end heading None shown n text x e = let shut : (0 == suc n) ≡ false = ne_eqb 0 (suc n) (λ h. absurd (omega arith)) in absurd (let none : None ≡ Some x = rw shut at e in cc)

open_span : {X : Type 0} (heading : Bool) (outside : Option (List Glyph)) (shown : List Glyph) (n : ℕ) (text : List ℕ) (breaks : Bool) (x : Inlines) → finish heading (at outside shown (Span n text 0)) (tail breaks) ≡ Some x → X
open_span heading outside shown n text false x e = open_end heading outside shown n text x e
open_span heading outside shown n text true x e =
    let shut : (0 == suc n) ≡ false = ne_eqb 0 (suc n) (λ h. absurd (omega arith)) in
    let step : next_byte heading (at outside shown (Span n text 0)) 92 ≡ at outside shown (Span n (text ++ 92 ∷ []) 0) = rw shut refl in
    open_end heading outside shown n (text ++ 92 ∷ []) x (ap (λ s. finish heading s []) (sym step) ∙ e)

-- ---- the blank at the end of a line

-- the number of a blank stands for it
abbrev BlankKept : Bool → Mode → Type 0
BlankKept heading mode = (outside : Option (List Glyph)) (shown : List Glyph) (breaks : Bool) (x : Inlines)
    → finish heading (next_byte heading (at outside shown mode) 32) (tail breaks) ≡ Some x → finish heading (at outside shown mode) (kept_blank ++ tail breaks) ≡ Some x

after_some : (heading : Bool) (test : Bool) (line : Reader.Line) (breaks : Bool) (x : Inlines)
    → finish heading (text_byte_if heading (if test then None else Some (record line { mode = Text Other })) 32) (tail breaks) ≡ Some x
    → finish heading (text_byte_if heading (if test then None else Some (record line { mode = Text Other })) 38) (codes "#32;" ++ tail breaks) ≡ Some x
after_some heading true line breaks x e = nothing_shows heading (tail breaks) x e
after_some heading false line breaks x e = e

span_blank : (heading : Bool) (n : ℕ) (text : List ℕ) (count : ℕ) → BlankKept heading (Span n text count)
span_blank heading n text count outside shown breaks x e = elim (bool_cases (count == suc n)) [
  | inl is ↦
      let line : Reader.Line = record { mode = Span n text count; shown = shown; outside = outside } in
      let after : Option Reader.Line = after_span line (unpadded text) in
      let blank : next_byte heading (Some line) 32 ≡ text_byte_if heading after 32 = rw is refl in
      let ampersand : next_byte heading (Some line) 38 ≡ text_byte_if heading after 38 = rw is refl in
      ap (λ s. finish heading s (codes "#32;" ++ tail breaks)) ampersand
      ∙ after_some heading (is_within_link outside && holds_definition (unpadded text)) (record { mode = Text Other; shown = shown ++ map code_glyph (unpadded text); outside = outside }) breaks x (ap (λ s. finish heading s (tail breaks)) (sym blank) ∙ e)
  | inr other ↦
      let step : next_byte heading (at outside shown (Span n text count)) 32 ≡ at outside shown (Span n (text ++ (graves count ++ 32 ∷ [])) 0) = rw other refl in
      open_span heading outside shown n (text ++ (graves count ++ 32 ∷ [])) breaks x (ap (λ s. finish heading s (tail breaks)) (sym step) ∙ e)
]

blank_kept : (heading : Bool) (mode : Mode) → BlankKept heading mode
blank_kept heading (Text before) outside shown breaks x e = e
blank_kept heading Escape outside shown breaks x e = nothing_shows heading (tail breaks) x e
blank_kept heading Underscore outside shown breaks x e = nothing_shows heading (tail breaks) x e
blank_kept heading Ampersand outside shown breaks x e = e
blank_kept heading (Number n) outside shown breaks x e = nothing_shows heading (tail breaks) x e
blank_kept heading (Opening n) outside shown breaks x e = open_span heading outside shown n (32 ∷ []) breaks x e
blank_kept heading (Span n text count) outside shown breaks x e = span_blank heading n text count outside shown breaks x e
blank_kept heading (Auto address) outside shown breaks x e = nothing_shows heading (tail breaks) x e
blank_kept heading (Entity address name) outside shown breaks x e = nothing_shows heading (tail breaks) x e
blank_kept heading Bracket outside shown breaks x e = nothing_shows heading (tail breaks) x e
blank_kept heading (Address address) outside shown breaks x e = nothing_shows heading (tail breaks) x e

end_blank : (heading : Bool) (line : Option Reader.Line) (breaks : Bool) (x : Inlines) → finish heading (next_byte heading line 32) (tail breaks) ≡ Some x → finish heading line (kept_blank ++ tail breaks) ≡ Some x
end_blank heading None breaks x e = nothing_shows heading (tail breaks) x e
end_blank heading (Some line) breaks x e = blank_kept heading line.mode line.outside line.shown breaks x e

with_end_reads : (heading : Bool) (line : Option Reader.Line) (body : List ℕ) (breaks : Bool) (x : Inlines) → finish heading line (body ++ tail breaks) ≡ Some x → finish heading line (with_end body ++ tail breaks) ≡ Some x
with_end_reads heading line [] breaks x e = e
with_end_reads heading line (b ∷ []) breaks x e = elim (bool_cases (b == 32)) [
  | inl is ↦ rw is (end_blank heading line breaks x (subst (λ y. finish heading (next_byte heading line y) (tail breaks) ≡ Some x) (eqb-true b 32 is) e))
  | inr other ↦ rw other e
]
with_end_reads heading line (b ∷ c ∷ body) breaks x e = with_end_reads heading (next_byte heading line b) (c ∷ body) breaks x e

-- ---- the front of a line

module _ (shown : List Glyph) (before : Before) (breaks : Bool) (x : Inlines) where
  abbrev here : Option Reader.Line
  here = at None shown (Text before)

  -- a byte that reads the same after a backslash
  abbrev ReadsSame : ℕ → Type 0
  ReadsSame b = ((more : List ℕ) → finish false here (92 ∷ b ∷ more) ≡ finish false here (b ∷ more)) × ((b == 32) ≡ false)

  mark_same : (b : ℕ) (line : List ℕ) → ReadsSame b → finish false here (92 ∷ (with_end (b ∷ line) ++ tail breaks)) ≡ finish false here (with_end (b ∷ line) ++ tail breaks)
  mark_same b [] same = rw same.1 (same.0 (tail breaks))
  mark_same b (c ∷ line) same = same.0 (with_end (c ∷ line) ++ tail breaks)

  one_of : (b c : ℕ) → ReadsSame c → (b == c) ≡ true → ReadsSame b
  one_of b c known e = subst ReadsSame (sym (eqb-true b c e)) known

  number_mark : (b : ℕ) → wants_mark true b ≡ true → ReadsSame b
  number_mark b h = elim (or_cases (b == 46) (b == 41) h) [ inl e ↦ one_of b 46 (λ more. refl, refl) e | inr e ↦ one_of b 41 (λ more. refl, refl) e ]

  block_mark : (b : ℕ) → wants_mark false b ≡ true → ReadsSame b
  block_mark b h = elim (or_cases (b == 35 || b == 43 || b == 45 || b == 61 || b == 62) (b == 126) h) [
    | inr e ↦ one_of b 126 (λ more. refl, refl) e
    | inl h1 ↦ elim (or_cases (b == 35 || b == 43 || b == 45 || b == 61) (b == 62) h1) [
      | inr e ↦ one_of b 62 (λ more. refl, refl) e
      | inl h2 ↦ elim (or_cases (b == 35 || b == 43 || b == 45) (b == 61) h2) [
        | inr e ↦ one_of b 61 (λ more. refl, refl) e
        | inl h3 ↦ elim (or_cases (b == 35 || b == 43) (b == 45) h3) [
          | inr e ↦ one_of b 45 (λ more. refl, refl) e
          | inl h4 ↦ elim (or_cases (b == 35) (b == 43) h4) [ inl e ↦ one_of b 35 (λ more. refl, refl) e | inr e ↦ one_of b 43 (λ more. refl, refl) e ]
        ]
      ]
    ]
  ]

  marked_same : (after : Bool) (b : ℕ) → wants_mark after b ≡ true → ReadsSame b
  marked_same true b h = number_mark b h
  marked_same false b h = block_mark b h

  mark_reads : (after : Bool) (b : ℕ) (line : List ℕ) → finish false here (with_end (b ∷ line) ++ tail breaks) ≡ Some x → finish false here ((mark_if (wants_mark after b) ++ with_end (b ∷ line)) ++ tail breaks) ≡ Some x
  mark_reads after b line e = elim (bool_cases (wants_mark after b)) [
    | inl is ↦ rw is (mark_same b line (marked_same after b is) ∙ e)
    | inr other ↦ rw other e
  ]

digit_word : (b : ℕ) → is_digit b ≡ true → is_word b ≡ true
digit_word b h = elim (bool_cases (is_letter b)) [ inl e ↦ rw e refl | inr e ↦ rw e h ]

guarded_reads : (after : Bool) (line : List ℕ) (shown : List Glyph) (before : Before) (breaks : Bool) (x : Inlines)
    → finish false (at None shown (Text before)) (line ++ tail breaks) ≡ Some x → finish false (at None shown (Text before)) (guarded after line ++ tail breaks) ≡ Some x
guarded_reads after [] shown before breaks x e = e
guarded_reads after (b ∷ line) shown before breaks x e = elim (bool_cases (is_digit b)) [
  | inl is ↦
      let word : is_word b ≡ true = digit_word b is in
      let step : next_byte false (at None shown (Text before)) b ≡ at None (shown ++ plain_glyph b ∷ []) (Text (before_of b)) = plain_next false None shown before b (word_is_plain b word) (word_control false None b word) in
      let moved : finish false (at None (shown ++ plain_glyph b ∷ []) (Text (before_of b))) (line ++ tail breaks) ≡ Some x = ap (λ s. finish false s (line ++ tail breaks)) (sym step) ∙ e in
      rw is (ap (λ s. finish false s (guarded true line ++ tail breaks)) step ∙ guarded_reads true line (shown ++ plain_glyph b ∷ []) (before_of b) breaks x moved)
  | inr other ↦ rw other (mark_reads shown before breaks x after b line (with_end_reads false (at None shown (Text before)) (b ∷ line) breaks x e))
]

blank_shows : (heading breaks : Bool) → finish heading (Some start_of_line) (kept_blank ++ tail breaks) ≡ shows (seen []) breaks
blank_shows heading true = refl
blank_shows heading false = refl

line_shows : (body : List ℕ) (breaks : Bool) (x : Inlines) → is_nil body ≡ false → finish false (Some start_of_line) (body ++ tail breaks) ≡ Some x → finish false (Some start_of_line) (line_text body ++ tail breaks) ≡ Some x
line_shows [] breaks x n e = absurd cc
line_shows (b ∷ line) breaks x n e = elim (bool_cases (b == 32)) [
  | inl is ↦ rw is (with_end_reads false (next_byte false (Some start_of_line) 32) line breaks x (subst (λ y. finish false (next_byte false (Some start_of_line) y) (line ++ tail breaks) ≡ Some x) (eqb-true b 32 is) e))
  | inr other ↦ rw other (guarded_reads false (b ∷ line) [] Other breaks x e)
]

framed_shows : (body : List ℕ) (x : Inlines) → is_nil body ≡ false → finish true (Some start_of_line) body ≡ Some x → finish true (Some start_of_line) (framed body) ≡ Some x
framed_shows [] x n e = absurd cc
framed_shows (b ∷ line) x n e = elim (bool_cases (b == 32)) [
  | inl is ↦ rw is (ap (finish true (Some start_of_line)) (sym (append-nil (kept_blank ++ with_end line))) ∙ with_end_reads true (next_byte true (Some start_of_line) 32) line false x (ap (finish true (next_byte true (Some start_of_line) 32)) (append-nil line) ∙ subst (λ y. finish true (next_byte true (Some start_of_line) y) line ≡ Some x) (eqb-true b 32 is) e))
  | inr other ↦ rw other (ap (finish true (Some start_of_line)) (sym (append-nil (with_end (b ∷ line)))) ∙ with_end_reads true (Some start_of_line) (b ∷ line) false x (ap (finish true (Some start_of_line)) (append-nil (b ∷ line)) ∙ e))
]

-- ---- a line that is read holds no newline

abbrev pub is_in_line : ℕ → Bool
is_in_line b = not (b == 10)

no_newline : (line : Option Reader.Line) (heading : Bool) → next_byte heading line 10 ≡ None
no_newline None heading = refl
no_newline (Some line) heading = refl

pub inside : (heading : Bool) (line : Option Reader.Line) (bytes : List ℕ) (x : Inlines) → finish heading line bytes ≡ Some x → list_all is_in_line bytes ≡ true
inside heading line [] x e = refl
inside heading line (b ∷ bytes) x e = elim (bool_cases (b == 10)) [
  | inl is ↦ nothing_shows heading bytes x (ap (λ s. finish heading s bytes) (sym (no_newline line heading) ∙ ap (next_byte heading line) (sym (eqb-true b 10 is))) ∙ e)
  | inr other ↦ and_from (is_in_line b) (list_all is_in_line bytes) (not_false (b == 10) other) (inside heading (next_byte heading line b) bytes x e)
]

-- ---- how it ends

last_both : (x : ℕ) (a b : List ℕ) → last_or x (a ++ b) ≡ last_or (last_or x a) b
last_both x [] b = refl
last_both x (c ∷ a) b = last_both c a b

last_end : (x : ℕ) (body : List ℕ) → (is_nil body ≡ true → (x == 32) ≡ false) → (last_or x (with_end body) == 32) ≡ false
last_end x [] h = h refl
last_end x (b ∷ []) h = elim (bool_cases (b == 32)) [ inl e ↦ rw e refl | inr e ↦ rw e e ]
last_end x (b ∷ c ∷ body) h = last_end b (c ∷ body) (λ e. absurd cc)

digit_no_blank : (b : ℕ) → is_digit b ≡ true → (b == 32) ≡ false
digit_no_blank b h = let r = digit_range b h in let low : 48 ≤ b = r.0 in ne_eqb b 32 (λ e. absurd (omega arith))

last_guarded : (x : ℕ) (after : Bool) (line : List ℕ) → (x == 32) ≡ false → (last_or x (guarded after line) == 32) ≡ false
last_guarded x after [] h = h
last_guarded x after (b ∷ line) h = elim (bool_cases (is_digit b)) [
  | inl is ↦ rw is (last_guarded b true line (digit_no_blank b is))
  | inr other ↦ rw other (ap (λ y. y == 32) (last_both x (mark_if (wants_mark after b)) (with_end (b ∷ line))) ∙ last_end (last_or x (mark_if (wants_mark after b))) (b ∷ line) (λ e. absurd cc))
]

last_line : (body : List ℕ) → (last_or 0 (line_text body) == 32) ≡ false
last_line [] = refl
last_line (b ∷ line) = elim (bool_cases (b == 32)) [ inl e ↦ rw e (last_end 59 line (λ _. refl)) | inr e ↦ rw e (last_guarded 0 false (b ∷ line) refl) ]

last_framed : (body : List ℕ) → (last_or 0 (framed body) == 32) ≡ false
last_framed [] = refl
last_framed (b ∷ line) = elim (bool_cases (b == 32)) [ inl e ↦ rw e (last_end 59 line (λ _. refl)) | inr e ↦ rw e (last_end 0 (b ∷ line) (λ h. absurd cc)) ]

line_ends : (body : List ℕ) (breaks : Bool) → ends_in_blank (line_text body ++ tail breaks) ≡ false
line_ends body true = ap (λ y. y == 32) (last_both 0 (line_text body) (codes "\\"))
line_ends body false = ap ends_in_blank (append-nil (line_text body)) ∙ last_line body

-- ---- it begins no other block

any_end : (x : List ℕ) (breaks : Bool) → list_any is_grave (with_end x ++ tail breaks) ≡ list_any is_grave x
any_end [] true = refl
any_end [] false = refl
any_end (b ∷ []) breaks = elim (bool_cases (b == 32)) [
  | inl e ↦ let is : b ≡ 32 = eqb-true b 32 e in rw e (any_end [] breaks ∙ ap (λ y. list_any is_grave (y ∷ [])) (sym is))
  | inr e ↦ rw e (ap (λ (y : Bool). b == 96 || y) (any_end [] breaks))
]
any_end (b ∷ c ∷ x) breaks = ap (λ (y : Bool). b == 96 || y) (any_end (c ∷ x) breaks)

short : (n : ℕ) → (nat_le 3 n && true) ≡ false → nat_le 3 n ≡ false
short n h = sym (and-true (nat_le 3 n)) ∙ h

short_tail : (n : ℕ) (breaks : Bool) → nat_le 3 n ≡ false → is_fence n (tail breaks) ≡ false
short_tail n true h = rw h refl
short_tail n false h = h

fence_end : (n : ℕ) (line : List ℕ) (breaks : Bool) → is_fence n line ≡ false → is_fence n (with_end line ++ tail breaks) ≡ false
fence_end n [] breaks h = short_tail n breaks h
fence_end n (b ∷ []) breaks h = elim (bool_cases (b == 32)) [
  | inl e ↦
      let is : b ≡ 32 = eqb-true b 32 e in
      let few : nat_le 3 n ≡ false = short n (subst (λ y. is_fence n (y ∷ []) ≡ false) is h) in
      rw (e, few) refl
  | inr e ↦ rw e (elim (bool_cases (b == 96)) [
    | inl g ↦ rw g (short_tail (suc n) breaks (rw g at h))
    | inr g ↦ let few : nat_le 3 n ≡ false = short n (rw g at h) in rw (g, few) refl
  ])
]
fence_end n (b ∷ c ∷ line) breaks h = elim (bool_cases (b == 96)) [
  | inl g ↦ rw g (fence_end (suc n) (c ∷ line) breaks (rw g at h))
  | inr g ↦ rw g (ap (λ (y : Bool). nat_le 3 n && not y) (any_end (c ∷ line) breaks) ∙ (rw g at h))
]

numbered_tail : (after breaks : Bool) → is_numbered after (tail breaks) ≡ false
numbered_tail true true = refl
numbered_tail false true = refl
numbered_tail after false = refl

-- what follows the digits at the front does not continue a number
numbered_end : (after : Bool) (b : ℕ) (line : List ℕ) (breaks : Bool) → is_digit b ≡ false → wants_mark after b ≡ false → is_numbered after (with_end (b ∷ line) ++ tail breaks) ≡ false
numbered_end true b [] breaks d w = elim (bool_cases (b == 32)) [ inl e ↦ rw e refl | inr e ↦ rw (e, d, w) refl ]
numbered_end false b [] breaks d w = elim (bool_cases (b == 32)) [ inl e ↦ rw e refl | inr e ↦ rw (e, d) refl ]
numbered_end true b (c ∷ line) breaks d w = rw (d, w) refl
numbered_end false b (c ∷ line) breaks d w = rw d refl

mark_numbered : (marked after : Bool) (b : ℕ) (line : List ℕ) (breaks : Bool) → (marked ≡ false → is_numbered after (with_end (b ∷ line) ++ tail breaks) ≡ false) → is_numbered after ((mark_if marked ++ with_end (b ∷ line)) ++ tail breaks) ≡ false
mark_numbered true true b line breaks h = refl
mark_numbered true false b line breaks h = refl
mark_numbered false after b line breaks h = h refl

numbered_guarded : (after : Bool) (line : List ℕ) (breaks : Bool) → is_numbered after (guarded after line ++ tail breaks) ≡ false
numbered_guarded after [] breaks = numbered_tail after breaks
numbered_guarded after (b ∷ line) breaks = elim (bool_cases (is_digit b)) [
  | inl is ↦ rw (is, is) (numbered_guarded true line breaks)
  | inr other ↦ rw other (mark_numbered (wants_mark after b) after b line breaks (numbered_end after b line breaks other))
]

digit_no_mark : (b : ℕ) → is_digit b ≡ true → ((b == 32 || is_block_mark b) ≡ false) × ((b == 96) ≡ false)
digit_no_mark b h =
    let r = digit_range b h in let low : 48 ≤ b = r.0 in let high : b ≤ 57 = r.1 in
    (rw (ne_eqb b 32 (λ e. absurd (omega arith)), ne_eqb b 35 (λ e. absurd (omega arith)), ne_eqb b 43 (λ e. absurd (omega arith)), ne_eqb b 45 (λ e. absurd (omega arith)), ne_eqb b 61 (λ e. absurd (omega arith)), ne_eqb b 62 (λ e. absurd (omega arith)), ne_eqb b 126 (λ e. absurd (omega arith))) refl, ne_eqb b 96 (λ e. absurd (omega arith)))

-- a line that begins with this byte
is_text_by : (b : ℕ) (more : List ℕ) → (b == 32 || is_block_mark b) ≡ false → is_numbered false (b ∷ more) ≡ false → is_fence 0 (b ∷ more) ≡ false → is_text_line (b ∷ more) ≡ true
is_text_by b more h g f = and_from (not (b == 32 || is_block_mark b)) (not (is_numbered false (b ∷ more)) && not (is_fence 0 (b ∷ more))) (not_false (b == 32 || is_block_mark b) h)
    (and_from (not (is_numbered false (b ∷ more))) (not (is_fence 0 (b ∷ more))) (not_false (is_numbered false (b ∷ more)) g) (not_false (is_fence 0 (b ∷ more)) f))

end_text : (b : ℕ) (line : List ℕ) (breaks : Bool) → (b == 32) ≡ false → is_block_mark b ≡ false → is_numbered false (with_end (b ∷ line) ++ tail breaks) ≡ false → is_fence 0 (with_end (b ∷ line) ++ tail breaks) ≡ false → is_text_line (with_end (b ∷ line) ++ tail breaks) ≡ true
end_text b [] breaks s m g f = rw s (is_text_by b (tail breaks) (or_from (b == 32) (is_block_mark b) s m) (rw s at g) (rw s at f))
end_text b (c ∷ line) breaks s m g f = is_text_by b (with_end (c ∷ line) ++ tail breaks) (or_from (b == 32) (is_block_mark b) s m) g f

guarded_text : (b : ℕ) (line : List ℕ) (breaks : Bool) → (b == 32) ≡ false → is_fence 0 (b ∷ line) ≡ false → is_text_line (guarded false (b ∷ line) ++ tail breaks) ≡ true
guarded_text b line breaks s f = elim (bool_cases (is_digit b)) [
  | inl is ↦
      let marks = digit_no_mark b is in
      rw is (is_text_by b (guarded true line ++ tail breaks) marks.0 (rw is (numbered_guarded true line breaks)) (rw marks.1 refl))
  | inr other ↦
      rw other (elim (bool_cases (is_block_mark b)) [
        | inl m ↦ rw m refl
        | inr m ↦ rw m (end_text b line breaks s m (numbered_end false b line breaks other m) (fence_end 0 (b ∷ line) breaks f))
      ])
]

line_is_text : (body : List ℕ) (breaks : Bool) → is_fence 0 body ≡ false → is_text_line (line_text body ++ tail breaks) ≡ true
line_is_text [] breaks f = refl
line_is_text (b ∷ line) breaks f = elim (bool_cases (b == 32)) [ inl e ↦ rw e refl | inr e ↦ rw e (guarded_text b line breaks e f) ]

-- ---- whole lines

-- what is put together for a line, and what it shows
pub record IsBody (body : List ℕ) (glyphs : List Glyph) : Type 0 where
  pub reaches : LineReaches body glyphs
  pub fence : is_fence 0 body ≡ false
  pub alike : AreAlike body glyphs

-- a line as it is written reads so
pub record Reads (line : List ℕ) (x : Inlines) : Type 0 where
  pub text : is_text_line line ≡ true
  pub shows : inlines false line ≡ Some x
  pub inside : list_all is_in_line line ≡ true

seen_some : (glyphs : List Glyph) → is_nil glyphs ≡ false → seen glyphs ≡ glyphs
seen_some [] h = absurd cc
seen_some (g ∷ glyphs) h = refl

seen_none : (glyphs : List Glyph) → is_nil glyphs ≡ true → seen glyphs ≡ seen []
seen_none [] h = refl
seen_none (g ∷ glyphs) h = absurd cc

tail_free : (breaks : Bool) → no_grave_first (tail breaks) ≡ true
tail_free true = refl
tail_free false = refl

tail_shows : (glyphs : List Glyph) (after : Before) (breaks : Bool) → finish false (at None glyphs (Text after)) (tail breaks) ≡ shows glyphs breaks
tail_shows glyphs after true = refl
tail_shows glyphs after false = refl

body_shows : (body : List ℕ) (glyphs : List Glyph) (breaks : Bool) → IsBody body glyphs → finish false (Some start_of_line) (line_text body ++ tail breaks) ≡ shows (seen glyphs) breaks
body_shows [] glyphs breaks p = blank_shows false breaks ∙ ap (λ y. shows y breaks) (sym (seen_none glyphs (sym p.alike)))
body_shows (b ∷ body) glyphs breaks p =
    let first = p.reaches Other [] refl in
    let whole : finish false (Some start_of_line) ((b ∷ body) ++ tail breaks) ≡ shows glyphs breaks = first.leads (tail breaks) (tail_free breaks) ∙ tail_shows glyphs first.after breaks in
    line_shows (b ∷ body) breaks (record { shown = glyphs; breaks = breaks }) refl whole ∙ ap (λ y. shows y breaks) (sym (seen_some glyphs (sym p.alike)))

pub body_reads : (body : List ℕ) (glyphs : List Glyph) (breaks : Bool) → IsBody body glyphs → Reads (line_text body ++ tail breaks) (record { shown = seen glyphs; breaks = breaks })
body_reads body glyphs breaks p =
    let e = body_shows body glyphs breaks p in
    record {
      text = line_is_text body breaks p.fence;
      shows = ap (λ (y : Bool). if y then None else finish false (Some start_of_line) (line_text body ++ tail breaks)) (line_ends body breaks) ∙ e;
      inside = inside false (Some start_of_line) (line_text body ++ tail breaks) (record { shown = seen glyphs; breaks = breaks }) e;
    }

pub line_body : (line : Line) → is_permitted_line line ≡ true → IsBody (written line) (line_shown line)
line_body line h = record {
  reaches = pieces_reach line [] refl h;
  fence = pieces_fence line h [] refl;
  alike = pieces_alike line [];
}

pub terms_body : (name : Option TargetSaid) (terms : List Line) → list_all is_permitted_line terms ≡ true → IsBody (terms_text name terms) (terms_shown name terms)
terms_body name terms h = record {
  reaches = terms_reach name terms h;
  fence = ap (is_fence 0) (sym (append-nil (terms_text name terms))) ∙ terms_fence name terms [] h refl;
  alike = terms_alike name terms;
}

pub dashed_body : (name : Option TargetSaid) (terms : List Line) (line : Line) → list_all is_permitted_line terms ≡ true → is_permitted_line line ≡ true
    → IsBody (terms_text name terms ++ (dash ++ written line)) (terms_shown name terms ++ (plain dash ++ line_shown line))
dashed_body name terms line h g = record {
  reaches = dashed_reaches (terms_text name terms) (written line) (terms_shown name terms) (line_shown line) (terms_reach name terms h) (pieces_reach line [] refl g);
  fence = terms_fence name terms (dash ++ written line) h refl;
  alike = alike_both (terms_text name terms) (dash ++ written line) (terms_shown name terms) (plain dash ++ line_shown line) (terms_alike name terms) refl;
}

-- ---- titles

title_alike : (title : List ℕ) → AreAlike (escaped true false title) (plain title)
title_alike [] = refl
title_alike (b ∷ title) = free_alike (escaped true false (b ∷ title)) (plain (b ∷ title)) refl (escaped_free true false b title)

framed_by : (body : List ℕ) (glyphs : List Glyph) → AreAlike body glyphs → finish true (Some start_of_line) body ≡ shows glyphs false → finish true (Some start_of_line) (framed body) ≡ shows (seen glyphs) false
framed_by [] glyphs a e = refl ∙ ap (λ y. shows y false) (sym (seen_none glyphs (sym a)))
framed_by (b ∷ body) glyphs a e = framed_shows (b ∷ body) (record { shown = glyphs; breaks = false }) refl e ∙ ap (λ y. shows y false) (sym (seen_some glyphs (sym a)))

pub title_shows : (title : List ℕ) → list_all is_permitted_byte title ≡ true → finish true (Some start_of_line) (title_text title) ≡ shows (seen (plain title)) false
title_shows title h =
    let p = text_reads true None title h Other false [] (λ e. absurd cc) (λ _. refl) in
    framed_by (escaped true false title) (plain title) (title_alike title) (ap end_of_line p.leads)

pub title_inlines : (title : List ℕ) → list_all is_permitted_byte title ≡ true → inlines true (title_text title) ≡ shows (seen (plain title)) false
title_inlines title h = ap (λ (y : Bool). if y then None else finish true (Some start_of_line) (title_text title)) (last_framed (escaped true false title)) ∙ title_shows title h

pub title_inside : (title : List ℕ) → list_all is_permitted_byte title ≡ true → list_all is_in_line (title_text title) ≡ true
title_inside title h = inside true (Some start_of_line) (title_text title) (record { shown = seen (plain title); breaks = false }) (title_shows title h)

begins_end : (b : ℕ) (line : List ℕ) → (b == 32) ≡ false → begins_in_blank (with_end (b ∷ line)) ≡ false
begins_end b [] h = rw h h
begins_end b (c ∷ line) h = h

framed_begins : (body : List ℕ) → begins_in_blank (framed body) ≡ false
framed_begins [] = refl
framed_begins (b ∷ line) = elim (bool_cases (b == 32)) [ inl e ↦ rw e refl | inr e ↦ rw e (begins_end b line e) ]

pub title_begins : (title : List ℕ) → begins_in_blank (title_text title) ≡ false
title_begins title = framed_begins (escaped true false title)
