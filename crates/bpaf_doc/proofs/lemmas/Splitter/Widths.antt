-- How many columns a text takes at most: three for each character.
use Rattle.std.specs.Prelude.{◌*◌, ◌+◌, ◌-◌, ◌<◌, ◌∷◌, ◌≤◌}
use Rattle.bpaf_doc.proofs.lemmas.Splitter.Words.{arith, ℕ, zero, suc, false, List, [], length, nat_tests, columns}
use Rattle.std.specs.Str.{chars, chars_after, continuation_len, lead_bits}
use Rattle.unicode_width.specs.declared.state.State.{State}
use Rattle.unicode_width.specs.declared.state.After.{After}
use Rattle.unicode_width.specs.Width.{Reading, alone, past_selectors, in_context, past_emoji, step, read_before, str_width, plain}

alone_most : (c : ℕ) → (alone false c).0 ≤ 3
unfolding alone
alone_most c = grind (arith, nat_tests)

selectors_most : (c total : ℕ) (after : After) → (past_selectors false c total after).0 ≤ total + 3
unfolding past_selectors
selectors_most c total after = grind (arith, alone_most, nat_tests)

context_most : (c total : ℕ) (s : State) → (in_context false c total s).0 ≤ total + 3
unfolding in_context
context_most c total s = grind (arith, selectors_most, nat_tests)

emoji_most : (c total : ℕ) (s : State) → (past_emoji false c total s).0 ≤ total + 3
unfolding past_emoji
emoji_most c total s = grind (arith, alone_most, context_most, nat_tests)

step_most : (c : ℕ) (r : Reading) → (step false c r).0 ≤ r.0 + 3
unfolding step
step_most c (total, s) = grind (arith, emoji_most)

read_most : (cs : List ℕ) → (read_before false cs (0, plain)).0 ≤ 3 * length cs
read_most [] = omega arith
read_most (c ∷ cs) = omega (arith, step_most c (read_before false cs (0, plain)), read_most cs)

width_most : (cs : List ℕ) → str_width false cs ≤ 3 * length cs
unfolding str_width
width_most cs = read_most cs

after_most : (n c : ℕ) (bytes : List ℕ) → length (chars_after n c bytes) ≤ 1 + length bytes
after_most zero c (b ∷ bytes) = omega (arith, after_most (continuation_len b) (lead_bits b) bytes)
after_most (suc n) c (b ∷ bytes) = omega (arith, after_most n (c * 64 + (b - 128)) bytes)
after_most x c [] = grind arith

chars_most : (bytes : List ℕ) → length (chars bytes) ≤ length bytes
unfolding chars
chars_most bytes = grind (arith, after_most)

-- a word of a run has not the columns that are the weight of a code line
pub columns_few : (bytes : List ℕ) → length bytes ≤ 300_000 → columns bytes < 1_000_000
columns_few bytes few = omega (arith, width_most (chars bytes), chars_most bytes, few)
