-- What is remembered of empty Block pairs tells of each mark whether it is skipped.
use Rattle.std.specs.Prelude.{◌&&◌, ◌+◌, ◌-◌, ◌<◌, ◌==◌, ◌^◌, ◌||◌, ◌↔◌, ◌∷◌, ◌≡◌, ◌≤◌, ◌⊎◌}
use Rattle.bpaf_doc.proofs.lemmas.Console.Words.{list_any, position_or_len, enumerate_from, slice_get_past, nat_tests, and_from, and_parts, false≢true, zero-add, add-zero, and-true, and-false, Block, Pairs, Part, Start, End, sym, ◌∙◌, ap, subst, inl, inr, arith, drop-drop, ℕ, suc, min, Bool, true, false, IsTrue, List, [], Some, length, refl, drop, slice_get, Option, nat_le, nat_lt, has_empty_block, after_section4, skips_pair, is_skipped, is_start_of, is_end_of, is_section4}
use Rattle.bpaf_doc.specs.declared.buffer.Block.TheVariants as blocks
use Rattle.bpaf_doc.specs.Console.Steps.Text as whole
use Rattle.std.specs.Option.{option_map_or}
use Rattle.bpaf_doc.proofs.lemmas.Console.Layout.Back.{by_test}

-- a Section4 start at place i skips a pair
abbrev pub SkipsAt : List Part → ℕ → Type 0
SkipsAt document i = (slice_get document i ≡ Some (Start blocks.Section4)) × (skips_pair document i ≡ true)

-- a start or an end of this block is at place i
abbrev pub HasMarkAt : List Part → ℕ → Block → Type 0
HasMarkAt document i block = (slice_get document i ≡ Some (Start block)) ⊎ (slice_get document i ≡ Some (End block))

-- What is known before the part at this place is looked at: a pair that is remembered is one that a start skips; an end
-- that is still ahead is the first one after some earlier place, and the pair after it is known; each earlier start
-- that skips a pair skips the remembered one, or one that was passed.
pub record KnowsPairs (document : List Part) (index : ℕ) (pairs : Pairs) : Type 0 where
  pub found : pairs.has_pair ≡ true → (i : ℕ) × SkipsAt document i × (after_section4 document i ≡ pairs.end + 1)
  pub ahead : index < pairs.end
      → (i : ℕ) × (i < index) × (after_section4 document i ≡ pairs.end + 1) × (pairs.has_pair ≡ skips_pair document i)
  pub earlier : (i : ℕ) → i < index → SkipsAt document i
      → ((after_section4 document i ≡ pairs.end + 1) × (pairs.has_pair ≡ true)) ⊎
      (after_section4 document i + 2 < index)

-- ---- tests

same_tests : (a b : Bool) → (a ≡ true → b ≡ true) → (b ≡ true → a ≡ true) → a ≡ b
same_tests a b f g = grind (arith, false≢true)

start_is : (part : Part) → is_start_of is_section4 part ≡ true → part ≡ Start blocks.Section4
start_is part h = grind arith

-- ---- a part by its place

slice_get-drop : {A : Type 0} (m n : ℕ) (xs : List A) → slice_get (drop m xs) n ≡ slice_get xs (m + n)
slice_get-drop (suc m) n (x ∷ xs) = grind (arith, slice_get-drop m n xs)
slice_get-drop y n z = grind (arith, zero-add)

-- a place past a usize has no part
pub slice_get-saturates : (document : List Part) (k : ℕ) → length document < 2 ^ 64 → slice_get document (min k 18446744073709551615) ≡ slice_get document k
slice_get-saturates document k small = grind (arith, slice_get_past)

-- ---- the first Section4 end after a place

position-drop : {A : Type 0} (p : A → Bool) (m : ℕ) (xs : List A) → m ≤ position_or_len p xs → m + position_or_len p (drop m xs) ≡ position_or_len p xs
position-drop p (suc m) (x ∷ xs) l = grind (arith, position-drop p m xs)
position-drop p y z l = grind (arith, zero-add)

-- what stands at the first place that passes
position_passes : {A : Type 0} (p : A → Bool) (xs : List A) (x : A) → slice_get xs (position_or_len p xs) ≡ Some x → p x ≡ true
position_passes p [] x e = absurd cc
position_passes p (y ∷ ys) x e = grind (arith, position_passes p ys x)

-- two places before the same end
after_section4-shared : (document : List Part) (i j : ℕ) → i ≤ j → j + 1 < after_section4 document i → after_section4 document j ≡ after_section4 document i
after_section4-shared document i j l m =
    at (position_or_len (is_end_of is_section4) (drop (i + 1) document)) (position_or_len (is_end_of is_section4) (drop (j + 1) document)) m rest where
      rest : (j - i ≤ position_or_len (is_end_of is_section4) (drop (i + 1) document))
          → j - i + position_or_len (is_end_of is_section4) (drop (j + 1) document) ≡ position_or_len (is_end_of is_section4) (drop (i + 1) document)
      rest few =
          ap (λ ps. j - i + position_or_len (is_end_of is_section4) ps) (ap (λ (n : ℕ). drop n document) (omega arith) ∙ sym (drop-drop (j - i) (i + 1) document))
          ∙ position-drop (is_end_of is_section4) (j - i) (drop (i + 1) document) few

      at : (n k : ℕ) → j + 1 < i + n + 2 → (j - i ≤ n → j - i + k ≡ n) → j + k + 2 ≡ i + n + 2
      at n k m rest = let e : j - i + k ≡ n = rest (omega arith) in omega arith

-- no start stands there
end_there : (document : List Part) (i j : ℕ) (part : Part) → j + 1 ≡ after_section4 document i → slice_get document j ≡ Some part → is_end_of is_section4 part ≡ true
end_there document i j part e here = grind (arith, position_passes (is_end_of is_section4) (drop (i + 1) document) part, slice_get-drop (i + 1) (position_or_len (is_end_of is_section4) (drop (i + 1) document)) document)

-- ---- the pair after it

empty_block-from : (parts : List Part) → slice_get parts 0 ≡ Some (Start blocks.Block) → slice_get parts 1 ≡ Some (End blocks.Block) → has_empty_block parts ≡ true
empty_block-from parts h i = grind arith

-- and what stands at the places of a skipped pair
pub pair_there : (document : List Part) (i : ℕ) → skips_pair document i ≡ true
    → (slice_get document (after_section4 document i) ≡ Some (Start blocks.Block)) × (slice_get document (after_section4 document i + 1) ≡ Some (End blocks.Block))
pair_there document i h = at (after_section4 document i) h where
  at : (k : ℕ) → has_empty_block (drop k document) ≡ true → (slice_get document k ≡ Some (Start blocks.Block)) × (slice_get document (k + 1) ≡ Some (End blocks.Block))
  at k h =
      let both : (slice_get (drop k document) 0 ≡ Some (Start blocks.Block)) × (slice_get (drop k document) 1 ≡ Some (End blocks.Block)) = grind arith in
      (ap (λ n. slice_get document n) (sym (add-zero k)) ∙ sym (slice_get-drop k 0 document) ∙ both.0, sym (slice_get-drop k 1 document) ∙ both.1)

-- the two tests of the code
pub empty_block-is : (document : List Part) (k : ℕ) (first second : Bool) → (IsTrue first ↔ slice_get document k ≡ Some (Start blocks.Block))
    → (IsTrue second ↔ slice_get document (k + 1) ≡ Some (End blocks.Block)) → (first && second) ≡ has_empty_block (drop k document)
empty_block-is document k first second f s = grind (arith, same_tests, empty_block-from, slice_get-drop, add-zero, and_parts, and_from)

-- ---- a place that is skipped, by the start that skips it

module _ (f : ℕ → Part → Bool) where
  any_found : (parts : List Part) (k : ℕ) → list_any (λ (i, part). f i part) (enumerate_from k parts) ≡ true
      → (i : ℕ) × (part : Part) × (slice_get parts i ≡ Some part) × (f (k + i) part ≡ true)
  any_found [] k h = absurd cc
  any_found (p ∷ ps) k h = at (f k p) refl h (λ h. any_found ps (k + 1) h) where
    at : (b : Bool) → f k p ≡ b → (b || list_any (λ (i, part). f i part) (enumerate_from (k + 1) ps)) ≡ true
        → (list_any (λ (i, part). f i part) (enumerate_from (k + 1) ps) ≡ true → (i : ℕ) × (part : Part) × (slice_get ps i ≡ Some part) × (f (k + 1 + i) part ≡ true))
        → (i : ℕ) × (part : Part) × (slice_get (p ∷ ps) i ≡ Some part) × (f (k + i) part ≡ true)
    at true e h more = (0, p, refl, ap (λ n. f n p) (add-zero k) ∙ e)
    at false e h more = let found = more h in (suc found.0, found.1, found.2, ap (λ n. f n found.1) (omega arith) ∙ found.3)

  any_from : (parts : List Part) (k i : ℕ) (part : Part) → slice_get parts i ≡ Some part → f (k + i) part ≡ true → list_any (λ (i, part). f i part) (enumerate_from k parts) ≡ true
  any_from (p ∷ ps) k (suc i) part here h = grind (arith, any_from ps (k + 1) i part here)
  any_from x k y part here h = grind (arith, add-zero)

abbrev skips : List Part → ℕ → ℕ → Part → Bool
skips document k i part = (is_start_of is_section4 part && skips_pair document i) && ((k == after_section4 document i) || (k == after_section4 document i + 1))

pub skipped_by : (document : List Part) (k : ℕ) → is_skipped document k ≡ true
    → (i : ℕ) × SkipsAt document i × ((k ≡ after_section4 document i) ⊎ (k ≡ after_section4 document i + 1))
skipped_by document k h = grind (arith, any_found (skips document k) document 0 h, and_parts, start_is, nat_tests)

skipped_from : (document : List Part) (k i : ℕ) → SkipsAt document i → (k ≡ after_section4 document i) ⊎ (k ≡ after_section4 document i + 1) → is_skipped document k ≡ true
skipped_from document k i (here, pair) h = grind (arith, any_from (skips document k) document 0 i (Start blocks.Section4) here, zero-add i, nat_tests)

-- ---- from part to part

module _ (document : List Part) where
  -- over a part that is no start of Section4
  pub KnowsPairs-more : (index : ℕ) (pairs : Pairs) → (slice_get document index ≡ Some (Start blocks.Section4) → ⊥) → KnowsPairs document index pairs → KnowsPairs document (index + 1) pairs
  KnowsPairs-more index pairs other knows = grind arith

  -- a start before an end that is known
  module _ (index : ℕ) (pairs : Pairs) (here : slice_get document index ≡ Some (Start blocks.Section4)) (knows : KnowsPairs document index pairs) (before : index < pairs.end) where
    pub shared_answer : pairs.has_pair ≡ skips_pair document index
    shared_answer = grind (arith, after_section4-shared)

    pub KnowsPairs-shared : KnowsPairs document (index + 1) pairs
    KnowsPairs-shared = grind (arith, after_section4-shared, shared_answer)

  -- a start that looks for its end
  pub KnowsPairs-found : (index : ℕ) (pairs next : Pairs) → slice_get document index ≡ Some (Start blocks.Section4) → KnowsPairs document index pairs → pairs.end ≤ index
      → next.end + 1 ≡ after_section4 document index → next.has_pair ≡ skips_pair document index → KnowsPairs document (index + 1) next
  KnowsPairs-found index pairs next here knows passed e h = record {
    found = λ pair. (index, (here, sym h ∙ pair), sym e);
    ahead = λ l. (index, omega arith, sym e, h);
    earlier = λ i l skips. at i skips (grind arith);
  } where
    -- a start stands neither at the end of a section nor in a pair
    not_end : (i : ℕ) → index + 1 ≡ after_section4 document i → ⊥
    not_end i same = false≢true (end_there document i index (Start blocks.Section4) same here)

    at : (i : ℕ) → SkipsAt document i → (i < index) ⊎ (i ≡ index) → ((after_section4 document i ≡ next.end + 1) × (next.has_pair ≡ true)) ⊎ (after_section4 document i + 2 < index + 1)
    at i h1 h2 = grind (arith, not_end i, pair_there document i)

  -- ---- what it tells of a mark

  is_block : (index i : ℕ) (block : Block) → skips_pair document i ≡ true → (index ≡ after_section4 document i) ⊎ (index ≡ after_section4 document i + 1) → HasMarkAt document index block → block ≡ blocks.Block
  is_block index i block pair (inl e) s = grind (arith, pair_there)
  is_block index i block pair (inr e) (inl m) = let same : Some (Start block) ≡ Some (End blocks.Block) = sym m ∙ ap (λ k. slice_get document k) e ∙ (pair_there document i pair).1 in absurd cc
  is_block index i block pair (inr e) (inr m) = let same : Some (End block) ≡ Some (End blocks.Block) = sym m ∙ ap (λ k. slice_get document k) e ∙ (pair_there document i pair).1 in cc

  -- where the part at this place was looked at
  pub skipped-shown : (index : ℕ) (pairs : Pairs) (block : Block) → KnowsPairs document (index + 1) pairs → HasMarkAt document index block → is_skipped document index ≡ true
      → (pairs.has_pair ≡ true) × (block ≡ blocks.Block) × (pairs.end < index) × (index ≤ pairs.end + 2)
  skipped-shown index pairs block knows mark h = at (skipped_by document index h) where
    at : ((i : ℕ) × SkipsAt document i × ((index ≡ after_section4 document i) ⊎ (index ≡ after_section4 document i + 1)))
        → (pairs.has_pair ≡ true) × (block ≡ blocks.Block) × (pairs.end < index) × (index ≤ pairs.end + 2)
    at (i, skips, place) =
        elim (knows.earlier i (grind arith) skips) [ inl g ↦ (g.1, (is_block index i block skips.1 place mark), grind arith, grind arith) | inr g ↦ absurd (grind arith) ]

  pub skipped-known : (index : ℕ) (pairs : Pairs) → KnowsPairs document (index + 1) pairs → pairs.has_pair ≡ true → pairs.end < index → index ≤ pairs.end + 2 → is_skipped document index ≡ true
  skipped-known index pairs knows h l m = grind (arith, skipped_from)

-- ---- the code's loop and tests

-- a mark at one of the two places, and a mark of another block
module _ (document : List Part) (index : ℕ) (pairs : Pairs) (block : Block) (knows : KnowsPairs document (index + 1) pairs) (mark : HasMarkAt document index block) where
  pub skipped-is : (within : Bool) → (IsTrue within ↔ (pairs.has_pair ≡ true) × (pairs.end < index) × (index ≤ pairs.end + 2)) → within ≡ is_skipped document index
  skipped-is within w = same_tests within (is_skipped document index) (λ h. skipped-known document index pairs knows (w.0 h).0 (w.0 h).1 (w.0 h).2)
      (λ h. let shown = skipped-shown document index pairs block knows mark h in w.1 (shown.0, shown.2, shown.3))

  pub skipped-other : (block ≡ blocks.Block → ⊥) → false ≡ is_skipped document index
  skipped-other other = same_tests false (is_skipped document index) (λ h. absurd (false≢true h)) (λ h. absurd (other (skipped-shown document index pairs block knows mark h).1))

-- ---- what the page remembers of them, step by step

section4_end_is : (document : List Part) (index : ℕ) → whole.section4_end document index + 1 ≡ after_section4 document index
section4_end_is document index = grind arith

empty_block_is : (document : List Part) (index : ℕ) → length document < 2 ^ 64 → whole.has_empty_block document index ≡ has_empty_block (drop (index + 1) document)
empty_block_is document index small =
    empty_block-is document (index + 1) (option_map_or (is_start_of whole.is_plain_block) (slice_get document (min (index + 1) 18446744073709551615)) false) (option_map_or (is_end_of whole.is_plain_block) (slice_get document (min (index + 2) 18446744073709551615)) false)
    (subst (λ (o : Option Part). IsTrue (option_map_or (is_start_of whole.is_plain_block) (slice_get document (min (index + 1) 18446744073709551615)) false) ↔ o ≡ Some (Start blocks.Block)) (slice_get-saturates document (index + 1) small)
    (grind arith))
    (subst (λ (o : Option Part). IsTrue (option_map_or (is_end_of whole.is_plain_block) (slice_get document (min (index + 2) 18446744073709551615)) false) ↔ o ≡ Some (End blocks.Block))
    (slice_get-saturates document (index + 2) small ∙ ap (λ (k : ℕ). slice_get document k) (omega arith)) (grind arith))

module _ (document : List Part) (small : length document < 2 ^ 64) where
  -- the start of a block
  pub knows_start : (index : ℕ) (b : Block) (pairs : Pairs) → slice_get document index ≡ Some (Start b) → KnowsPairs document index pairs
      → KnowsPairs document (index + 1) (whole.pairs_at document index b pairs) × (whole.is_adjacent b (whole.pairs_at document index b pairs) ≡ (is_start_of is_section4 (Start b) && skips_pair document index))
  knows_start index b pairs here knows = grind (arith, by_test, KnowsPairs-found, nat_tests, section4_end_is, KnowsPairs-shared, shared_answer, empty_block_is, KnowsPairs-more)

  pub skips_is : (index : ℕ) (b : Block) (pairs : Pairs) → KnowsPairs document (index + 1) pairs → HasMarkAt document index b → whole.skips pairs index b ≡ is_skipped document index
  skips_is index b pairs knows mark = at (whole.is_plain_block b) refl where
    within : (p : Bool) (a c : ℕ) → IsTrue (p && (nat_lt a c && nat_le (c - a) 2)) ↔ (p ≡ true) × (a < c) × (c ≤ a + 2)
    within true a c = ((λ h. (refl, grind (arith, nat_tests), grind (arith, nat_tests))), (λ h. grind (arith, nat_tests)))
    within false a c = ((λ h. absurd cc), (λ h. absurd (let no : false ≡ true = h.0 in cc)))

    at : (c : Bool) → whole.is_plain_block b ≡ c → ((pairs.has_pair && c) && (nat_lt pairs.end index && nat_le (index - pairs.end) 2)) ≡ is_skipped document index
    at true h =
        ap (λ t. t && (nat_lt pairs.end index && nat_le (index - pairs.end) 2)) (and-true pairs.has_pair)
        ∙ skipped-is document index pairs b knows mark (pairs.has_pair && (nat_lt pairs.end index && nat_le (index - pairs.end) 2)) (within pairs.has_pair pairs.end index)
    at false h =
        ap (λ t. t && (nat_lt pairs.end index && nat_le (index - pairs.end) 2)) (and-false pairs.has_pair)
        ∙ skipped-other document index pairs b knows mark (λ e. let yes : whole.is_plain_block b ≡ true = ap whole.is_plain_block e in let no : true ≡ false = sym yes ∙ h in cc)
