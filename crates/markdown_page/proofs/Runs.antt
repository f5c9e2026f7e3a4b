-- Runs of backquotes in a text: which lengths they have, and the least that none has.
use Rattle.std.proofs.Common.{◌≡◌, ◌≢◌, ◌<◌, ◌≤◌, ◌+◌, ◌-◌, arith, ℕ, zero, suc, Bool, true, false, not, ◌||◌, List, [], ◌∷◌, ◌++◌, length, get_or, drop, add-one, refl, sym, ap, ◌∙◌, inl, inr}
use Rattle.std.specs.Prelude.{replicate, set, ◌==◌, if◌then◌else◌}
use Rattle.std.specs.List.{position_or_len, range_with_len}
use Rattle.std.proofs.lemmas.Bool.{cases_eq, cases_lt, ne_eqb, eq-eqb}
use Rattle.std.proofs.lemmas.List.{get_or-set_same, get_or-set_other, length-append, length-replicate}
use Rattle.std.proofs.lemmas.List.FromFn.{get_or-range_with_len, length-range_with_len}
use Rattle.std.proofs.lemmas.List.Sums.{passes_at_first, position_or_len_is}
use Rattle.markdown_page.specs.Bytes.{has_run}
use Rattle.markdown_page.specs.Exact.{spare_run}
use Rattle.markdown_page.specs.Steps.{first_unseen, widened, with_run, with_runs}
use Rattle.markdown_page.proofs.Bools.{bool_cases, not_true, or_from}
use Rattle.markdown_page.proofs.Loops.{drop_next}

or_none : (x : Bool) → (x || false) ≡ x
or_none true = refl
or_none false = refl

or_all : (x : Bool) → (x || true) ≡ true
or_all true = refl
or_all false = refl

or_assoc : (x y z : Bool) → ((x || y) || z) ≡ (x || (y || z))
or_assoc true y z = refl
or_assoc false y z = refl

-- ---- what is seen

abbrev is_seen : List Bool → ℕ → Bool
is_seen seen n = get_or seen n false

none_seen : (k n : ℕ) → get_or (replicate k false) n false ≡ false
none_seen zero n = refl
none_seen (suc k) zero = refl
none_seen (suc k) (suc n) = none_seen k n

seen_in_more : (seen : List Bool) (k n : ℕ) → is_seen (seen ++ replicate k false) n ≡ is_seen seen n
seen_in_more [] k n = none_seen k n
seen_in_more (is ∷ seen) k zero = refl
seen_in_more (is ∷ seen) k (suc n) = seen_in_more seen k n

has_room : (seen : List Bool) (run : ℕ) → run ≤ length (widened seen run)
has_room seen run =
    let both = length-append seen (replicate (run - length seen) false) in
    let more = length-replicate (run - length seen) false in
    omega arith

some_run : (seen : List Bool) (m n : ℕ) → is_seen (set (widened seen (suc m)) m true) n ≡ (is_seen seen n || suc m == suc n)
some_run seen m n = elim (cases_eq n m) [
  | inl e ↦ rw e (let room = has_room seen (suc m) in get_or-set_same (widened seen (suc m)) m true false (omega arith) ∙ sym (ap (λ (x : Bool). is_seen seen m || x) (eq-eqb (suc m) (suc m) refl) ∙ or_all (is_seen seen m)))
  | inr other ↦ get_or-set_other (widened seen (suc m)) m n true false other ∙ seen_in_more seen (suc m - length seen) n ∙ sym (ap (λ (x : Bool). is_seen seen n || x) (ne_eqb (suc m) (suc n) (λ e. absurd (omega arith))) ∙ or_none (is_seen seen n))
]

-- with a run, that length is seen too
run_is_seen : (seen : List Bool) (run n : ℕ) → is_seen (with_run seen run) n ≡ (is_seen seen n || run == suc n)
run_is_seen seen zero n = sym (ap (λ (x : Bool). is_seen seen n || x) (ne_eqb 0 (suc n) (λ e. absurd (omega arith))) ∙ or_none (is_seen seen n))
run_is_seen seen (suc m) n =
    let some : (suc m == 0) ≡ false = ne_eqb (suc m) 0 (λ e. absurd (omega arith)) in
    let less : suc m - 1 ≡ m = omega arith in
    ap (λ (x : Bool). is_seen (if x then seen else set (widened seen (suc m)) (suc m - 1) true) n) some
    ∙ ap (λ (i : ℕ). is_seen (set (widened seen (suc m)) i true) n) less
    ∙ some_run seen m n

-- ---- the runs of a text

pub runs_next : (seen : List Bool) (run : ℕ) (bytes : List ℕ) (i : ℕ) → i < length bytes → with_runs seen run (drop i bytes) ≡ (if get_or bytes i 0 == 96 then with_runs seen (run + 1) (drop (i + 1) bytes) else with_runs (with_run seen run) 0 (drop (i + 1) bytes))
runs_next seen run bytes i h = rw (add-one run) (ap (with_runs seen run) (drop_next bytes i 0 h))

runs_are_seen : (seen : List Bool) (run : ℕ) (text : List ℕ) (n : ℕ) → is_seen (with_runs seen run text) n ≡ (is_seen seen n || has_run (suc n) run text)
runs_are_seen seen run [] n = run_is_seen seen run n
runs_are_seen seen run (b ∷ text) n =
    elim (bool_cases (b == 96)) [
      | inl e ↦ rw e (runs_are_seen seen (suc run) text n)
      | inr e ↦ rw e (runs_are_seen (with_run seen run) 0 text n
          ∙ ap (λ (x : Bool). x || has_run (suc n) 0 text) (run_is_seen seen run n)
          ∙ or_assoc (is_seen seen n) (run == suc n) (has_run (suc n) 0 text))
    ]

-- ---- the least that is missing

-- a text is too short for a run that is longer
no_room : (n run : ℕ) (text : List ℕ) → run + length text < n → has_run n run text ≡ false
no_room n run [] h = ne_eqb run n (λ e. absurd (omega arith))
no_room n run (b ∷ text) h =
    elim (bool_cases (b == 96)) [
      | inl e ↦ rw e (no_room n (suc run) text (omega arith))
      | inr e ↦ rw e (or_from (run == n) (has_run n 0 text) (ne_eqb run n (λ same. absurd (omega arith))) (no_room n 0 text (omega arith)))
    ]

count_at : (n i : ℕ) → i < n → get_or (range_with_len 1 n) i 0 ≡ suc i
count_at n i h = let e : 1 + i ≡ suc i = omega arith in get_or-range_with_len 1 n i 0 h ∙ e

abbrev is_spare_count : List ℕ → ℕ → Bool
is_spare_count text count = not (has_run count 0 text)

pub is_spare : (text : List ℕ) → has_run (suc (spare_run text)) 0 text ≡ false
is_spare text =
    let counts : List ℕ = range_with_len 1 (length text) in
    let all : length counts ≡ length text = length-range_with_len 1 (length text) in
    elim (cases_lt (spare_run text) (length text)) [
      | inl h ↦ not_true (has_run (suc (spare_run text)) 0 text)
          (sym (ap (is_spare_count text) (count_at (length text) (spare_run text) h)) ∙ passes_at_first (is_spare_count text) counts 0 (let g : spare_run text < length counts = rw all h in g))
      | inr h ↦ no_room (suc (spare_run text)) 0 text (omega arith)
    ]

seen_before : (seen : List Bool) (i : ℕ) → i < first_unseen seen → is_seen seen i ≡ true
seen_before [] i h = absurd (omega arith)
seen_before (true ∷ seen) zero h = refl
seen_before (true ∷ seen) (suc i) h = seen_before seen i (omega arith)
seen_before (false ∷ seen) i h = absurd (omega arith)

first_is_unseen : (seen : List Bool) → is_seen seen (first_unseen seen) ≡ false
first_is_unseen [] = refl
first_is_unseen (true ∷ seen) = first_is_unseen seen
first_is_unseen (false ∷ seen) = refl

-- the runs of a text are seen, and no others
abbrev SeesRuns : List Bool → List ℕ → Type 0
SeesRuns seen text = (n : ℕ) → is_seen seen n ≡ has_run (suc n) 0 text

unseen_within : (seen : List Bool) (text : List ℕ) → SeesRuns seen text → first_unseen seen ≤ length text
unseen_within seen text sees = elim (cases_lt (length text) (first_unseen seen)) [
  | inl h ↦ let is : true ≡ false = sym (seen_before seen (length text) h) ∙ sees (length text) ∙ no_room (suc (length text)) 0 text (omega arith) in absurd cc
  | inr h ↦ h
]

first_is_spare : (seen : List Bool) (text : List ℕ) → SeesRuns seen text → first_unseen seen ≡ spare_run text
first_is_spare seen text sees =
    let n : ℕ = first_unseen seen in
    let counts : List ℕ = range_with_len 1 (length text) in
    let all : length counts ≡ length text = length-range_with_len 1 (length text) in
    let within : n ≤ length text = unseen_within seen text sees in
    let spare : (i : ℕ) → i < length text → is_spare_count text (get_or counts i 0) ≡ not (is_seen seen i)
    = λ i h. ap (is_spare_count text) (count_at (length text) i h) ∙ ap not (sym (sees i)) in
    sym (position_or_len_is (is_spare_count text) counts n 0 (omega arith)
    (λ i h. spare i (omega arith) ∙ ap not (seen_before seen i h))
    (λ h. spare n (omega arith) ∙ ap not (first_is_unseen seen)))

pub unseen_is_spare : (text : List ℕ) → first_unseen (with_runs [] 0 text) ≡ spare_run text
unseen_is_spare text = first_is_spare (with_runs [] 0 text) text (runs_are_seen [] 0 text)
