-- A stack of margins, walked over the marks of a document, has the margin at each place on top.
use Rattle.std.specs.Prelude.{if◌then◌else◌, ◌*◌, ◌++◌, ◌+◌, ◌<◌, ◌∷◌, ◌≡◌, ◌≤◌}
use Rattle.bpaf_doc.proofs.lemmas.Console.Words.{ℕ, zero, suc, max, ⊤, false, List, [], length, refl, map, filter, take, drop, fold, get_or, nat_le, enumerate_from, sym, ◌∙◌, ap, arith, add-one, nat_tests, zero-add, add-zero, Part, stays_open, greatest, is_skipped, term_lengths, tab_stop, Shift, Indent, Outdent, Level, part_shift, shifts, is_indent, is_outdent, indents_in_force, margin, greatest_margin}
use Rattle.bpaf_doc.proofs.lemmas.Lists.Opening.{closed, stays_open_is}

-- ---- the stack, newest first

-- the margin in force
abbrev pub top : List ℕ → ℕ
top [] = 0
top (m ∷ ms) = m

abbrev pub popped : List ℕ → List ℕ
popped [] = []
popped (m ∷ ms) = ms

-- what a shift does to a stack
abbrev pub shifted : Shift → List ℕ → List ℕ
shifted (Indent n) stack = (top stack + n) ∷ stack
shifted Outdent stack = popped stack
shifted Level stack = stack

abbrev pub stack_after : List Shift → List ℕ → List ℕ
stack_after [] stack = stack
stack_after (s ∷ ss) stack = stack_after ss (shifted s stack)

-- the stack before the part at place j
abbrev pub stack_at : List Part → ℕ → List ℕ
stack_at document j = stack_after (take j (shifts document)) []

-- the shift of the part at place j
abbrev pub shift_at : List Part → ℕ → Part → Shift
shift_at document j part = if is_skipped document j then Level else part_shift document j part

-- ---- what shifts take away of a stack that stands before them

-- how many entries
abbrev taken : List Shift → ℕ
taken ss = closed is_indent is_outdent ss

open_is : (ss : List Shift) → stays_open is_indent is_outdent ss ≡ nat_le (taken ss) 0
open_is ss = grind (arith, stays_open_is)

-- ---- the top of the stack

-- Entry by entry: where shifts take k entries away, the top is the entry below these and the indents in force since.
top_after : (ss : List Shift) (stack : List ℕ) → top (stack_after ss stack) ≡ get_or stack (taken ss) 0 + indents_in_force ss
top_after [] stack = (grind arith) ∙ sym (add-zero (get_or stack 0 0))
top_after (x ∷ ss) stack = grind (arith, top_after ss, open_is, nat_tests, add-one)

-- after the part at place j the top is the margin there
pub top-margin : (document : List Part) (j : ℕ) → top (stack_at document (j + 1)) ≡ margin document j
top-margin document j = top_after (take (j + 1) (shifts document)) [] ∙ zero-add (indents_in_force (take (j + 1) (shifts document)))

-- ---- one part after another

stack_after-append : (ss ts : List Shift) (stack : List ℕ) → stack_after (ss ++ ts) stack ≡ stack_after ts (stack_after ss stack)
stack_after-append [] ts stack = refl
stack_after-append (s ∷ ss) ts stack = stack_after-append ss ts (shifted s stack)

-- the first j + 1 of what the numbered parts give
take_next : {A : Type 0} (f : ℕ × Part → A) (j k : ℕ) (parts : List Part) (part : Part) (rest : List Part) → drop j parts ≡ part ∷ rest
    → take (suc j) (map f (enumerate_from k parts)) ≡ take j (map f (enumerate_from k parts)) ++ f (k + j, part) ∷ []
take_next f (suc j) k (p ∷ ps) part rest e = grind (arith, take_next f j (k + 1) ps part rest e)
take_next f x k y part rest e = grind (arith, add-zero)

-- the part at place j shifts the stack
pub stack_at-more : (document : List Part) (j : ℕ) (part : Part) (rest : List Part) → drop j document ≡ part ∷ rest
    → stack_at document (j + 1) ≡ shifted (shift_at document j part) (stack_at document j)
stack_at-more document j part rest e = grind (arith, add-one j, take_next, stack_after-append (take j (shifts document)) (shift_at document (0 + j) part ∷ []), zero-add j)

-- ---- no entry is above the top

-- each entry is at most the next newer one
abbrev Falls : List ℕ → Type 0
Falls [] = ⊤
Falls (m ∷ ms) = (top ms ≤ m) × Falls ms

pub falls_after : (ss : List Shift) (stack : List ℕ) → Falls stack → Falls (stack_after ss stack)
falls_after [] stack h = h
falls_after (x ∷ ss) stack h = grind (arith, falls_after ss)

-- the stack after the part at place j by that before it
module _ (document : List Part) (j : ℕ) (part : Part) (rest : List Part) (here : drop j document ≡ part ∷ rest) where
  -- the margin stays at a text, in a skipped pair and at a mark that does nothing to it
  pub margin-level : shift_at document j part ≡ Level → margin document j ≡ top (stack_at document j)
  margin-level e = sym (top-margin document j) ∙ ap top (stack_at-more document j part rest here) ∙ ap (λ s. top (shifted s (stack_at document j))) e

  pub margin-indent : (n : ℕ) → shift_at document j part ≡ Indent n → margin document j ≡ top (stack_at document j) + n
  margin-indent n e = sym (top-margin document j) ∙ ap top (stack_at-more document j part rest here) ∙ ap (λ s. top (shifted s (stack_at document j))) e

pub shift_at-shown : (document : List Part) (j : ℕ) (part : Part) → is_skipped document j ≡ false → shift_at document j part ≡ part_shift document j part
shift_at-shown document j part e = rw e refl

-- ---- bounds

greatest_le : (most : ℕ) (ns : List ℕ) (a : ℕ) → a ≤ most → fold max a (filter (λ n. nat_le n most) ns) ≤ most
greatest_le most [] a l = l
greatest_le most (n ∷ ns) a l = grind (arith, greatest_le most ns, nat_tests)

pub tab_stop-le : (document : List Part) → tab_stop document ≤ 28
tab_stop-le document = let l : greatest (filter (λ n. nat_le n 24) (term_lengths document)) ≤ 24 = greatest_le 24 (term_lengths document) 0 (omega arith) in omega arith

pub in_force-le : (document : List Part) (j k : ℕ) (parts : List Part) → indents_in_force (take j (map (λ (i, part). shift_at document i part) (enumerate_from k parts))) ≤ 30 * j
in_force-le document (suc j) k (part ∷ parts) = grind (arith, in_force-le document j (k + 1) parts, tab_stop-le)
in_force-le document x k y = grind arith

pub margin-le : (document : List Part) (j : ℕ) → margin document j ≤ 30 * (j + 1)
margin-le document j = in_force-le document (j + 1) 0 document

pub more_than : (ns : List ℕ) (a : ℕ) → a ≤ fold max a ns
more_than [] a = omega arith
more_than (n ∷ ns) a = let rest : max a n ≤ fold max (max a n) ns = more_than ns (max a n) in omega arith

greatest_at : (f : ℕ → ℕ) (j k a : ℕ) (parts : List Part) → j < length parts → f (k + j) ≤ fold max a (map (λ (i, part). f i) (enumerate_from k parts))
greatest_at f j k a [] l = absurd (omega arith)
greatest_at f zero k a (part ∷ parts) l = grind (arith, more_than, add-zero)
greatest_at f (suc j) k a (part ∷ parts) l = grind (arith, greatest_at f j (k + 1) (max a (f k)) parts)

pub margin-le-greatest : (document : List Part) (j : ℕ) → j < length document → margin document j ≤ greatest_margin document
margin-le-greatest document j l = grind (arith, zero-add j, greatest_at (margin document) j 0 0 document l)
