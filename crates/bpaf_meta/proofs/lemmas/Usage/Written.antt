-- What several writes in a row leave in a document.
use Rattle.std.proofs.Common.{◌≡◌, ℕ, Bool, true, false, List, [], ◌∷◌, ◌++◌, sym, refl, ap, ◌∙◌, append_assoc, Result, arith}
use Rattle.std.specs.Prelude.{OnOk, OnErr, flat_map, if◌then◌else◌}
use Rattle.std.proofs.lemmas.List.Sums.{fold-append}
use Rattle.bpaf_doc.specs.declared.buffer.Style.{Style}
use Rattle.bpaf_doc.specs.Buffer.Growth.{Grows}
use Rattle.bpaf_doc.specs.Buffer.Parts.{Part, Text}
use Rattle.bpaf_doc.specs.Buffer.Writes.{Write, same_style, part_then_text, plain, with_text, with_write, with_writes}
use Rattle.bpaf_meta.specs.Usage.Writes.{separated}

pub with_writes-append : (ps : List Part) (vs ws : List Write) → with_writes ps (vs ++ ws) ≡ with_writes (with_writes ps vs) ws
with_writes-append ps vs ws = fold-append with_write ps vs ws

pub OnOk-map : {T E P Q : Type 0} (r : Result T E) → (P → Q) → OnOk r P → OnOk r Q
OnOk-map r h1 h2 = grind arith

-- a growth after a growth; what a call that writes leaves
pub Grows-then : (ps qs rs : List Part) → Grows ps qs → Grows qs rs → Grows ps rs
Grows-then ps qs rs f g = (f.0 ++ g.0, g.1 ∙ ap (λ xs. with_writes xs g.0) f.1 ∙ sym (with_writes-append ps f.0 g.0))

pub Grows-call : {T E : Type 0} (r : Result T E) (ps qs : List Part) (ws : List Write) → OnOk r (qs ≡ with_writes ps ws) → OnErr r (qs ≡ ps) → Grows ps qs
Grows-call r ps qs ws h4 h5 = grind arith

pub Grows-by : (ps qs : List Part) (ws : List Write) → qs ≡ with_writes ps ws → Grows ps qs
Grows-by ps qs ws e = (ws, e)

-- two consecutive texts of one style are one
abbrev IsFilled : List Part → Type 0
IsFilled [] = ⊥
IsFilled (p ∷ ps) = Unit {0}

same_as_itself : (s : Style) → same_style s s ≡ true
same_as_itself s = grind arith

alone_twice : (a b : List ℕ) (s : Style) → part_then_text (Text a s) b s ≡ Text (a ++ b) s ∷ []
alone_twice a b s = rw (same_as_itself s) refl

part_twice : (p : Part) (a b : List ℕ) (s : Style) → with_text (part_then_text p a s) b s ≡ part_then_text p (a ++ b) s
part_twice (Text c k) a b s = grind (arith, same_as_itself, append_assoc, alone_twice)
part_twice p a b s = ap (λ ps. p ∷ ps) (alone_twice a b s)

filled : (q : Part) (qs : List Part) (b : List ℕ) (s : Style) → IsFilled (with_text (q ∷ qs) b s)
filled q qs b s = grind arith

pub with_text_twice : (ps : List Part) (a b : List ℕ) (s : Style) → with_text (with_text ps a s) b s ≡ with_text ps (a ++ b) s
with_text_twice [] a b s = alone_twice a b s
with_text_twice (p ∷ []) a b s = part_twice p a b s
with_text_twice (p ∷ q ∷ ps) a b s = (grind (arith, filled q ps a s)) ∙ ap (λ rs. p ∷ rs) (with_text_twice (q ∷ ps) a b s)

-- what a line of parts still writes: from its first part on, or after a part
abbrev pub rest_of_line : (is_first : Bool) → List ℕ → List (List Write) → List Write
rest_of_line true bytes wss = separated bytes wss
rest_of_line false bytes wss = flat_map (λ ws. plain bytes ∷ ws) wss

line_turn : (is_first : Bool) (bytes : List ℕ) (ws : List Write) (wss : List (List Write)) → rest_of_line is_first bytes (ws ∷ wss) ≡ (if is_first then [] else plain bytes ∷ []) ++ (ws ++ rest_of_line false bytes wss)
line_turn is_first bytes ws wss = grind arith

-- a turn of the loop over a line
pub written_turn : (is_first : Bool) (bytes : List ℕ) (ws : List Write) (wss all : List (List Write)) (start before between after : List Part) → between ≡ with_writes before (if is_first then [] else plain bytes ∷ []) → after ≡ with_writes between ws → with_writes before (rest_of_line is_first bytes (ws ∷ wss)) ≡ with_writes start (rest_of_line true bytes all) → with_writes after (rest_of_line false bytes wss) ≡ with_writes start (rest_of_line true bytes all)
written_turn is_first bytes ws wss all start before between after e f h = grind (arith, with_writes-append, line_turn)
