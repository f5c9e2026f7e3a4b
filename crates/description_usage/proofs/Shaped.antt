-- Brackets in no pair, by how many are open.
use Rattle.std.proofs.Common.{◌≡◌, ℕ, zero, suc, ◌+◌, ◌<◌, ◌≤◌, ◌==◌, Bool, true, false, cond, ◌&&◌, List, [], ◌∷◌, ◌++◌, length, drop, get_or, reverse, min, nat_lt, refl, sym, ap, ◌∙◌, arith, add-one}
use Rattle.std.specs.List.{list_all}
use Rattle.std.proofs.lemmas.Bool.Decides.{nat_tests}
use Rattle.std.proofs.lemmas.List.{drop_all, drop_more, reverse-append}
use Rattle.description_usage.specs.Forms.{depths, is_lone, open_after, shaped, shaped_after, stand_in}
use Rattle.description_usage.specs.Depths.{is_lone_at, shaped_byte}
use Rattle.description_usage.specs.Syntax.{is_closing, is_opening}

-- the brackets that are open after that many bytes
abbrev pub opened_at : ℕ → (opened : List ℕ) → List ℕ → List ℕ
opened_at zero opened bs = opened
opened_at (suc i) opened [] = opened
opened_at (suc i) opened (b ∷ bs) = opened_at i (open_after opened b) bs

pub depths_left : (i : ℕ) (opened bs : List ℕ) → drop i (depths opened bs) ≡ depths (opened_at i opened bs) (drop i bs)
depths_left zero opened bs = refl
depths_left (suc i) opened [] = refl
depths_left (suc i) opened (b ∷ bs) = depths_left i (open_after opened b) bs

pub shaped_left : (i : ℕ) (opened bs : List ℕ) → drop i (shaped_after opened bs) ≡ shaped_after (opened_at i opened bs) (drop i bs)
shaped_left zero opened bs = refl
shaped_left (suc i) opened [] = refl
shaped_left (suc i) opened (b ∷ bs) = shaped_left i (open_after opened b) bs

pub level_at : (i : ℕ) (opened bs : List ℕ) → i ≤ length bs → get_or (length opened ∷ depths opened bs) i 0 ≡ length (opened_at i opened bs)
level_at zero opened bs h = refl
level_at (suc i) opened [] h = absurd (omega arith)
level_at (suc i) opened (b ∷ bs) h = level_at i (open_after opened b) bs (omega arith)

pub opened_more : (i : ℕ) (opened bs : List ℕ) → i < length bs → opened_at (suc i) opened bs ≡ open_after (opened_at i opened bs) (get_or bs i 0)
opened_more i opened [] h = absurd (omega arith)
opened_more zero opened (b ∷ bs) h = refl
opened_more (suc i) opened (b ∷ bs) h = opened_more i (open_after opened b) bs (omega arith)

step_long : (opened : List ℕ) (b : ℕ) → length (open_after opened b) ≤ length opened + 1
step_long opened b = grind arith

pub opened_long : (i : ℕ) (opened bs : List ℕ) → length (opened_at i opened bs) ≤ length opened + i
opened_long zero opened bs = omega arith
opened_long (suc i) opened [] = omega arith
opened_long (suc i) opened (b ∷ bs) = let more = opened_long i (open_after opened b) bs in let one = step_long opened b in omega arith

pub depths_long : (opened bs : List ℕ) → length (depths opened bs) ≡ length bs
depths_long opened [] = refl
depths_long opened (b ∷ bs) = ap suc (depths_long (open_after opened b) bs)

-- ---- the fewest

abbrev pub lowest_of : List ℕ → ℕ
lowest_of [] = 18446744073709551615
lowest_of (d ∷ ds) = min d (lowest_of ds)

both_above : (k d l : ℕ) → (nat_lt k d && nat_lt k l) ≡ nat_lt k (min d l)
both_above k d l = grind (arith, nat_tests)

pub all_above : (k : ℕ) (ds : List ℕ) → k < 18446744073709551615 → list_all (nat_lt k) ds ≡ nat_lt k (lowest_of ds)
all_above k [] h = grind (arith, nat_tests)
all_above k (d ∷ ds) h = ap (λ b. nat_lt k d && b) (all_above k ds h) ∙ both_above k d (lowest_of ds)

min_turned : (a b : ℕ) → min a b ≡ min b a
min_turned a b = omega arith

-- ---- a byte

lone_by : (b : ℕ) (opened follows after : List ℕ) (lowest : ℕ) → follows ≡ open_after opened b → list_all (nat_lt (length opened)) (depths follows after) ≡ nat_lt (length opened) lowest → is_lone opened b after ≡ is_lone_at b (length opened) (length follows) lowest
lone_by b opened follows after lowest is above = by (is_opening b) where
  by : (t : Bool) → cond t (list_all (nat_lt (length opened)) (depths (open_after opened b) after)) (is_closing b && length (open_after opened b) == length opened) ≡ cond t (nat_lt (length opened) lowest) (is_closing b && length follows == length opened)
  by true = sym (ap (λ bs. list_all (nat_lt (length opened)) (depths bs after)) is) ∙ above
  by false = sym (ap (λ bs. is_closing b && length bs == length opened) is)

module _ (bs levels : List ℕ) (is : levels ≡ 0 ∷ depths [] bs) (i lowest : ℕ) (within : i < length bs) (small : i < 18446744073709551615) (low : lowest ≡ lowest_of (drop (suc i) (depths [] bs))) where
  level_before : get_or levels i 0 ≡ length (opened_at i [] bs)
  level_before = ap (λ ls. get_or ls i 0) is ∙ level_at i [] bs (omega arith)

  pub level_after : get_or levels (suc i) 0 ≡ length (opened_at (suc i) [] bs)
  level_after = ap (λ ls. get_or ls (suc i) 0) is ∙ level_at (suc i) [] bs (omega arith)

  above : list_all (nat_lt (length (opened_at i [] bs))) (depths (opened_at (suc i) [] bs) (drop (suc i) bs)) ≡ nat_lt (length (opened_at i [] bs)) lowest
  above =
      let long = opened_long i [] bs in
      ap (list_all (nat_lt (length (opened_at i [] bs)))) (sym (depths_left (suc i) [] bs)) ∙ all_above (length (opened_at i [] bs)) (drop (suc i) (depths [] bs)) (omega arith)
      ∙ ap (nat_lt (length (opened_at i [] bs))) (sym low)

  lone_here : is_lone (opened_at i [] bs) (get_or bs i 0) (drop (suc i) bs) ≡ is_lone_at (get_or bs i 0) (get_or levels i 0) (get_or levels (suc i) 0) lowest
  lone_here =
      lone_by (get_or bs i 0) (opened_at i [] bs) (opened_at (suc i) [] bs) (drop (suc i) bs) lowest (opened_more i [] bs within) above
      ∙ sym (ap (λ n. is_lone_at (get_or bs i 0) n (get_or levels (suc i) 0) lowest) level_before ∙ ap (λ n. is_lone_at (get_or bs i 0) (length (opened_at i [] bs)) n lowest) level_after)

  pub shaped_here : drop i (shaped bs) ≡ shaped_byte (get_or bs i 0) (get_or levels i 0) (get_or levels (suc i) 0) lowest ∷ drop (suc i) (shaped bs)
  shaped_here =
      let b = get_or bs i 0 in
      let opened = opened_at i [] bs in
      let rest = drop (suc i) bs in
      let next : drop i bs ≡ b ∷ rest = rw (← add-one) (drop_more bs i 0 within) in
      shaped_left i [] bs ∙ ap (shaped_after opened) next ∙ ap (λ t. cond t (stand_in b) b ∷ shaped_after (open_after opened b) rest) lone_here
      ∙ ap (λ bs. shaped_byte b (get_or levels i 0) (get_or levels (suc i) 0) lowest ∷ bs) (ap (λ os. shaped_after os rest) (sym (opened_more i [] bs within)) ∙ sym (shaped_left (suc i) [] bs))

  pub lowest_here : lowest_of (drop i (depths [] bs)) ≡ min lowest (get_or levels (suc i) 0)
  lowest_here =
      let ds = depths [] bs in
      let long = depths_long [] bs in
      let at : get_or levels (suc i) 0 ≡ get_or ds i 0 = ap (λ ls. get_or ls (suc i) 0) is in
      let next : drop i ds ≡ get_or ds i 0 ∷ drop (suc i) ds = rw (← add-one) (drop_more ds i 0 (omega arith)) in
      ap lowest_of next ∙ ap (min (get_or ds i 0)) (sym low) ∙ min_turned (get_or ds i 0) lowest ∙ ap (min lowest) (sym at)

-- ---- one byte more, from the end

pub shaped_more : (bs levels : List ℕ) → levels ≡ 0 ∷ depths [] bs → (i lowest : ℕ) → i < length bs → i < 18446744073709551615 → (at k : ℕ) → at ≡ suc i → k ≡ suc i → lowest ≡ lowest_of (drop at (depths [] bs)) → (out more : List ℕ) → reverse out ≡ drop at (shaped bs)
    → more ≡ out ++ shaped_byte (get_or bs i 0) (get_or levels i 0) (get_or levels k 0) lowest ∷ [] → reverse more ≡ drop i (shaped bs)
shaped_more bs levels is i lowest within small at k e f low out more so_far put =
    let byte = shaped_byte (get_or bs i 0) (get_or levels i 0) (get_or levels k 0) lowest in
    ap reverse put ∙ reverse-append out (byte ∷ []) ∙ ap (λ xs. byte ∷ xs) (so_far ∙ ap (λ n. drop n (shaped bs)) e) ∙ ap (λ n. shaped_byte (get_or bs i 0) (get_or levels i 0) (get_or levels n 0) lowest ∷ drop (suc i) (shaped bs)) f
    ∙ sym (shaped_here bs levels is i lowest within small (low ∙ ap (λ n. lowest_of (drop n (depths [] bs))) e))

pub lowest_more : (bs levels : List ℕ) → levels ≡ 0 ∷ depths [] bs → (i lowest : ℕ) → i < length bs → i < 18446744073709551615 → (at k new : ℕ) → at ≡ suc i → k ≡ suc i → lowest ≡ lowest_of (drop at (depths [] bs)) → new ≡ min lowest (get_or levels k 0) → new ≡ lowest_of (drop i (depths [] bs))
lowest_more bs levels is i lowest within small at k new e f low put = put ∙ ap (λ n. min lowest (get_or levels n 0)) f ∙ sym (lowest_here bs levels is i lowest within small (low ∙ ap (λ n. lowest_of (drop n (depths [] bs))) e))

pub shaped_long : (opened bs : List ℕ) → length (shaped_after opened bs) ≡ length bs
shaped_long opened [] = refl
shaped_long opened (b ∷ bs) = ap suc (shaped_long (open_after opened b) bs)

pub low_first : (bs : List ℕ) → 18446744073709551615 ≡ lowest_of (drop (length bs) (depths [] bs))
low_first bs = let long = depths_long [] bs in sym (ap lowest_of (drop_all (length bs) (depths [] bs) (omega arith)))

pub shaped_first : (bs : List ℕ) → [] ≡ drop (length bs) (shaped bs)
shaped_first bs = let long = shaped_long [] bs in sym (drop_all (length bs) (shaped bs) (omega arith))

pub levels_long : (bs levels : List ℕ) → levels ≡ 0 ∷ depths [] bs → length levels ≡ suc (length bs)
levels_long bs levels is = ap length is ∙ ap suc (depths_long [] bs)
