-- Counting the inline blocks that have to end before texts are shown again comes
-- to what the definition of hidden texts says.
use Rattle.std.specs.Prelude.{◌&&◌, ◌++◌, ◌==◌, ◌||◌, ◌∷◌, ◌≡◌}
use Rattle.bpaf_doc.proofs.lemmas.Console.Words.{sym, ◌∙◌, ap, arith, append_assoc, append-nil, ℕ, zero, suc, Bool, false, not, List, [], nat_le, nat_tests, or-false, Block, Part, Start, stays_open, breaks_off, is_hidden, is_inline, hidden_after, is_start_of, is_end_of}
use Rattle.bpaf_doc.proofs.lemmas.Lists.Opening.{closed, stays_open_is}

start_is : (b : Block) → is_start_of is_inline (Start b) ≡ is_inline b
start_is b = grind arith

-- how many of the inline blocks that are open before some parts they end
abbrev ended : List Part → ℕ
ended parts = closed (is_start_of is_inline) (is_end_of is_inline) parts

open_is : (parts : List Part) → stays_open (is_start_of is_inline) (is_end_of is_inline) parts ≡ nat_le (ended parts) 0
open_is parts = grind (arith, stays_open_is)

-- at this count of inline blocks that have to end, none of the fronts has ended them all
abbrev stays_hidden : ℕ → List Part → Bool
stays_hidden zero parts = false
stays_hidden (suc more) parts = nat_le (ended parts) more

pub not_zero : (more : ℕ) → (suc more == 0) ≡ false
not_zero more = grind (arith, nat_tests)

abbrev IsKept : ℕ → Part → List Part → Type 0
IsKept hidden part parts = (stays_hidden hidden (part ∷ parts) || (breaks_off part && stays_open (is_start_of is_inline) (is_end_of is_inline) parts)) ≡ stays_hidden (hidden_after false hidden part) parts

kept : (hidden : ℕ) (part : Part) (parts : List Part) → IsKept hidden part parts
kept hidden part parts = grind (arith, open_is, not_zero, nat_tests, start_is, or-false)

-- ---- the count after a front

-- What a count says of the parts before it: whatever follows, they hide a text after
-- it as long as not all these inline blocks have ended.
abbrev pub Counts : ℕ → List Part → Type 0
Counts hidden before = (between : List Part) → is_hidden (before ++ between) ≡ (stays_hidden hidden between || is_hidden between)

pub Counts-more : (hidden : ℕ) (before : List Part) (part : Part) → Counts hidden before → Counts (hidden_after false hidden part) (before ++ part ∷ [])
Counts-more hidden before part counts between = grind (arith, append_assoc, kept)

-- and a text that follows is hidden unless the count is 0
pub is_hidden-Counts : (hidden : ℕ) (before : List Part) → Counts hidden before → is_hidden before ≡ not (hidden == 0)
is_hidden-Counts zero before counts = ap is_hidden (sym (append-nil before)) ∙ counts []
is_hidden-Counts (suc more) before counts = grind (arith, append-nil before, not_zero more, nat_tests)
