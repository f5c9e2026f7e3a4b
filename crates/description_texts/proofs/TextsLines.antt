-- The lines of a text, and how many of them belong to a block.
use Rattle.std.proofs.Common.{◌≡◌, ℕ, zero, suc, ◌+◌, ◌<◌, ◌≤◌, min, take, Bool, true, false, cond, List, [], ◌∷◌, ◌++◌, length, map, get_or, arith, refl, ap, sym, ◌∙◌, append_assoc, Bor, Some, None, inl, inr}
use Rattle.std.specs.Prelude.{if◌then◌else◌, not, ◌==◌}
use Rattle.std.specs.List.{after_first, before_first, onto_first, position_or_len, slice_split}
use Rattle.std.proofs.lemmas.Bool.Decides.{eqb_tells}
use Rattle.std.proofs.lemmas.List.{length-append, length-map, map-append, take-map}
use Rattle.std.proofs.lemmas.Bool.{false≢true, ne_eqb}
use Rattle.page_model.specs.Content.{code}
use Rattle.description_texts.proofs.TextsCuts.{prefix_seen}
use Rattle.std.proofs.lemmas.List.Splits.{slice_split_first}
use Rattle.std.proofs.lemmas.Str.Pattern.{IsSplitOnceResult, split_once_first, split_parts}
use Rattle.description_texts.specs.Texts.{begins_fence, code_more, code_more_if, goes_on, is_blank_kind, is_newline, kind_of, lines, list_more, some_code, with_blank_front}
use Rattle.description_texts.specs.declared.texts.lines.Kind.{Kind}
use Rattle.description_texts.specs.declared.texts.lines.Kind.TheVariants.{Blank, Fence, Code, Item, Plain}

-- ---- a line and what follows its newline

no_newline : (b : ℕ) → ¬ (b ≡ 10) → is_newline b ≡ false
no_newline b h = elim (eqb_tells b 10) [ inl p ↦ absurd (h p.1) | inr p ↦ p.0 ]

unsplit : (text : List ℕ) → ((i : ℕ) → i < length text → ¬ (get_or text i 0 ≡ 10)) → slice_split is_newline text ≡ text ∷ []
unsplit [] h = refl
unsplit (b ∷ text) h =
    ap (λ t. cond t ([] ∷ slice_split is_newline text) (onto_first b (slice_split is_newline text))) (no_newline b (h 0 (omega arith)))
    ∙ ap (onto_first b) (unsplit text (λ i below. h (suc i) (omega arith)))

pub one_alone : (text : List ℕ) → IsSplitOnceResult 10 text None → slice_split is_newline text ≡ text ∷ []
one_alone text h = unsplit text (split_parts 10 text None h (omega arith))

pub one_line : (text : List ℕ) → IsSplitOnceResult 10 text None → lines text ≡ with_blank_front text ∷ []
one_line text h = ap (map with_blank_front) (one_alone text h)

pub first_cut : (text : List ℕ) (line after : Bor (List ℕ)) → IsSplitOnceResult 10 text (Some (line, after)) → slice_split is_newline text ≡ line.now ∷ slice_split is_newline after.now
first_cut text line after h =
    let found = split_once_first 10 text (Some (line, after)) h (omega arith) in
    slice_split_first is_newline text 0 found.0 ∙ ap (λ x. x ∷ slice_split is_newline (after_first is_newline text)) (sym found.1) ∙ ap (λ x. line.now ∷ slice_split is_newline x) (sym found.2)

pub line_cut : (text : List ℕ) (line after : Bor (List ℕ)) → IsSplitOnceResult 10 text (Some (line, after)) → lines text ≡ with_blank_front line.now ∷ lines after.now
line_cut text line after h = ap (map with_blank_front) (first_cut text line after h)

pub cut_shorter : (text : List ℕ) (line after : Bor (List ℕ)) → IsSplitOnceResult 10 text (Some (line, after)) → length after.now < length text
cut_shorter text line after h = grind (arith, split_parts, length-append)

module _ {X : Type 0} (now : X → List ℕ) (before after : List X) (x : X) (pushed : after ≡ before ++ x ∷ []) where
  seen : map now after ≡ map now before ++ now x ∷ []
  seen = ap (map now) pushed ∙ map-append now before (x ∷ [])

  -- a line that is found
  pub line_found : (text line follows : List ℕ) (all : List (List ℕ)) → now x ≡ with_blank_front line → lines text ≡ with_blank_front line ∷ lines follows → map now before ++ lines text ≡ all → map now after ++ lines follows ≡ all
  line_found text line follows all shown cut w =
      ap (λ xs. xs ++ lines follows) seen
      ∙ append_assoc (map now before) (now x ∷ []) (lines follows)
      ∙ ap (λ xs. map now before ++ xs) (ap (λ l. l ∷ lines follows) shown ∙ sym cut)
      ∙ w

  pub last_found : (text : List ℕ) (all : List (List ℕ)) → now x ≡ with_blank_front text → lines text ≡ with_blank_front text ∷ [] → map now before ++ lines text ≡ all → map now after ≡ all
  last_found text all shown cut w = seen ∙ ap (λ xs. map now before ++ xs) (ap (λ l. l ∷ []) shown ∙ sym cut) ∙ w

-- ---- code

-- how many lines, where `rest` of those after the place belong to the block
abbrev pub code_total : (len at rest : ℕ) → ℕ
code_total len at zero = len
code_total len at (suc rest) = at + suc rest

code_next : (len at rest : ℕ) → code_total len at (suc rest) ≡ code_total (at + 1) (at + 1) rest
code_next len at zero = omega arith
code_next len at (suc rest) = omega arith

blank_next : (len at rest : ℕ) → code_total len at (code_more_if Blank rest) ≡ code_total len (at + 1) rest
blank_next len at zero = refl
blank_next len at (suc rest) = omega arith

more_within : (k : Kind) (more : ℕ) → code_more_if k more ≤ suc more
more_within Blank zero = omega arith
more_within Blank (suc more) = omega arith
more_within Fence more = omega arith
more_within Code more = omega arith
more_within Item more = omega arith
more_within Plain more = omega arith

pub code_within : (lines : List (List ℕ)) → code_more lines ≤ length lines
code_within [] = omega arith
code_within (line ∷ lines) = omega (arith, more_within (kind_of line) (code_more lines), code_within lines)

-- ---- lists

list_if : (goes : Bool) (more n : ℕ) → more ≤ n → (if goes then suc more else 0) ≤ suc n
list_if true more n h = omega arith
list_if false more n h = omega arith

pub list_within : (after_blank : Bool) (lines : List (List ℕ)) → list_more after_blank lines ≤ length lines
list_within after_blank [] = omega arith
list_within after_blank (line ∷ lines) = list_if (goes_on after_blank (kind_of line)) (list_more (is_blank_kind (kind_of line)) lines) (length lines) (list_within (is_blank_kind (kind_of line)) lines)

-- ---- no more than there are

pub all_within : {X : Type 0} (now : X → List ℕ) (xs : List X) (n m : ℕ) → n ≡ m → m ≤ length (map now xs) → n ≡ min m (length xs)
all_within now xs n m e h = omega (arith, length-map xs now)

-- ---- a fence

not_none : {X : Type 0} (xs : List X) → (suc (length xs) == 0) ≡ true → ⊥
not_none xs h = let n : (suc (length xs) == 0) ≡ false = ne_eqb (suc (length xs)) 0 (λ e. absurd (omega arith)) in false≢true (sym n ∙ h)

pub code_none : {X : Type 0} (now : X → List ℕ) (xs : List X) → (length xs == 0) ≡ true → some_code (map now xs) ≡ []
code_none now [] h = refl
code_none now (x ∷ xs) h = absurd (not_none xs h)

pub code_some : {X : Type 0} (now : X → List ℕ) (xs : List X) → (length xs == 0) ≡ false → some_code (map now xs) ≡ code (map now xs) ∷ []
code_some now [] h = absurd (false≢true (sym h))
code_some now (x ∷ xs) h = refl

-- the lines up to the next fence
pub inner_seen : {X : Type 0} (now : X → List ℕ) (xs : List X) → before_first begins_fence (map now xs) ≡ map now (take (position_or_len (λ x. begins_fence (now x)) xs) xs)
inner_seen now xs =
    take-map now (position_or_len begins_fence (map now xs)) xs
    ∙ ap (λ n. map now (take n xs)) (sym (prefix_seen (λ line. not (begins_fence line)) now xs))
