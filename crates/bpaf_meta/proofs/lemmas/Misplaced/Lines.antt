-- The faults that the check looks for are the misplaced items of the lines and scopes.
use Rattle.std.proofs.Common.{◌≡◌, ℕ, ◌+◌, ◌≤◌, Bool, true, false, List, [], ◌∷◌, ◌++◌, ◌⊎◌, inl, inr, refl, sym, ap, ◌∙◌, subst, map, length, length-append, arith, Option, Some, None}
use Rattle.std.specs.Prelude.{not, ◌&&◌, ◌||◌, if◌then◌else◌, filter, flat_map}
use Rattle.std.specs.Option.{option_map_or}
use Rattle.std.specs.List.{list_any}
use Rattle.std.proofs.Math.Bool.{or-false, or_assoc}
use Rattle.std.proofs.lemmas.Bool.{or_cases, or_left, or_right}
use Rattle.std.proofs.lemmas.Grind.{flat_map-append}
use Rattle.std.proofs.lemmas.List.Folds.{list_any-append}
use Rattle.bpaf_meta.specs.Content.{Tree, and_of, or_of, optional, required, adjacent, item, many, subsection, suffix, skip, custom_usage, strict, Trees, no_trees, tree, Leaf, command}
use Rattle.bpaf_meta.specs.Meta.Misplaced.{Numbered, Line, Scope, is_positional, first_item, items_in, items_in_parts, command_items, number_after, joined_lines, at_least_empty, lines_from, and_lines, branch_lines, scopes_within, scopes_within_parts, command_scopes, late_items, misplaced_items, IsWellPlaced, IsFirstMisplaced}
use Rattle.bpaf_meta.specs.Meta.Steps.Walk.{Check, fine, wrong, then_check, beside, walked, walked_within, walked_parts, walked_branches}
use Rattle.bpaf_meta.proofs.lemmas.Misplaced.Among.{Among, among_left, among_right, among_cases, among_map, in_map, among_flat, in_flat, none_among, contains, all_among}
use Rattle.bpaf_meta.proofs.lemmas.Misplaced.Late.{is_named, at_positional, late_after, after_first-later, late-append}
use Rattle.bpaf_meta.proofs.lemmas.Misplaced.Found.{Same, AreFrom, from_then, Finds, finds_same, finds_then}

abbrev has_positional : Line → Bool
has_positional = list_any at_positional

-- lines

among_joined : (line : Line) (fronts backs : List Line) → Among line (joined_lines fronts backs) → (front : Line) × (back : Line) × Among front fronts × Among back backs × (front ++ back ≡ line)
among_joined line fronts backs a =
    let f = among_flat (λ (front : Line). map (λ back. front ++ back) backs) line fronts a in
    let b = among_map (λ (back : Line). f.0 ++ back) line backs f.2 in
    (f.0, b.0, f.1, b.1, b.2)

in_joined : (front back : Line) (fronts backs : List Line) → Among front fronts → Among back backs → Among (front ++ back) (joined_lines fronts backs)
in_joined front back fronts backs a b = in_flat (λ (f : Line). map (λ k. f ++ k) backs) front (front ++ back) fronts a (in_map (λ (k : Line). front ++ k) back backs b)

in_at_least : (line : Line) (lines : List Line) → Among line lines → Among line (at_least_empty lines)
in_at_least line lines h2 = grind arith

among_at_least : (line : Line) (lines : List Line) → Among line (at_least_empty lines) → Among line lines ⊎ (line ≡ [])
among_at_least line lines h2 = grind arith

-- what is late without a mark is late with one
late_step : (b : Bool) (y x : Numbered) (line : Line) → is_positional y.1 ≡ b → (Among x (late_items line) → Among x (filter is_named line)) → Among x (late_items (y ∷ line)) → Among x (filter is_named (y ∷ line))
late_step b y x line h4 h5 h6 = grind (arith, after_first-later)

late_is_named : (x : Numbered) (line : Line) → Among x (late_items line) → Among x (filter is_named line)
late_is_named x [] a = a
late_is_named x (y ∷ line) a = late_step (is_positional y.1) y x line refl (late_is_named x line) a

late_more : (a b : Bool) (x : Numbered) (line : Line) → (a ≡ true → b ≡ true) → Among x (late_after a line) → Among x (late_after b line)
late_more a b x line h4 h5 = grind (arith, late_is_named)

-- one of the lines sets the mark that all of them set together
record Marks (lines : List Line) (mark : Bool) : Type 0 where
  some : (line : Line) × Among line lines × (has_positional line ≡ mark)
  each : (line : Line) → Among line lines → has_positional line ≡ true → mark ≡ true

line_marks : (line : Line) (m : Bool) → has_positional line ≡ m → Marks (line ∷ []) m
line_marks line m e = grind arith

or_up : (a b c d : Bool) → (a ≡ true → c ≡ true) → (b ≡ true → d ≡ true) → (a || b) ≡ true → (c || d) ≡ true
or_up a b c d f g e = elim (or_cases a b e) [ inl h ↦ or_left c d (f h) | inr h ↦ or_right c d (g h) ]

joined_marks : (fronts backs : List Line) (m p : Bool) → Marks fronts m → Marks backs p → Marks (joined_lines fronts backs) (m || p)
joined_marks fronts backs m p f b = record {
  some = (f.some.0 ++ b.some.0, in_joined f.some.0 b.some.0 fronts backs f.some.1 b.some.1, list_any-append at_positional f.some.0 b.some.0 ∙ ap (λ c. c || has_positional b.some.0) f.some.2 ∙ ap (λ c. m || c) b.some.2);
  each = λ line a h.
      let j = among_joined line fronts backs a in
      or_up (has_positional j.0) (has_positional j.1) m p (f.each j.0 j.2) (b.each j.1 j.3) (sym (list_any-append at_positional j.0 j.1) ∙ ap has_positional j.4 ∙ h);
}

not_empty_line : (line : Line) → line ≡ [] → has_positional line ≡ true → ⊥
not_empty_line line e h = let differ : false ≡ true = sym (ap has_positional e) ∙ h in cc

-- of the lines of a branch and of the other branches, one sets the mark that all branches set together
either_line : (m p : Bool) (lines others : List Line) → Marks lines m → Marks (at_least_empty others) p → (line : Line) × Among line (at_least_empty (lines ++ others)) × (has_positional line ≡ (m || p))
either_line false true lines others f g = elim (among_at_least g.some.0 others g.some.1) [
  | inl a ↦ (g.some.0, in_at_least g.some.0 (lines ++ others) (among_right g.some.0 lines others a), g.some.2)
  | inr e ↦ absurd (not_empty_line g.some.0 e g.some.2)
]
either_line true p lines others f g = (f.some.0, in_at_least f.some.0 (lines ++ others) (among_left f.some.0 lines others f.some.1), f.some.2)
either_line false false lines others f g = (f.some.0, in_at_least f.some.0 (lines ++ others) (among_left f.some.0 lines others f.some.1), f.some.2)

either_marks : (m p : Bool) (lines others : List Line) → Marks lines m → Marks (at_least_empty others) p → Marks (at_least_empty (lines ++ others)) (m || p)
either_marks m p lines others f g = record {
  some = either_line m p lines others f g;
  each = λ line a h. elim (among_at_least line (lines ++ others) a) [
    | inl b ↦ elim (among_cases line lines others b) [ inl c ↦ or_left m p (f.each line c h) | inr c ↦ or_right m p (g.each line (in_at_least line others c) h) ]
    | inr e ↦ absurd (not_empty_line line e h)
  ];
}

-- the items that are late in lines after a mark, and in scopes
abbrev late_in : Scope → List Numbered
late_in s = flat_map late_items (lines_from s.0 s.1)

abbrev faults : List Line → List Scope → Bool → List Numbered
faults lines scopes a = flat_map (late_after a) lines ++ flat_map late_in scopes

at_least_late : (a : Bool) (lines : List Line) → flat_map (late_after a) (at_least_empty lines) ≡ flat_map (late_after a) lines
at_least_late a lines = grind arith

-- what is late in two lines joined is late in one of them
joined_late : (a m p : Bool) (fronts backs : List Line) → Marks fronts m → Marks backs p → Same (flat_map (late_after a) (joined_lines fronts backs)) (flat_map (late_after a) fronts ++ flat_map (late_after (a || m)) backs)
joined_late a m p fronts backs f b x =
    let left = flat_map (late_after a) fronts in
    let right = flat_map (late_after (a || m)) backs in (
      (λ h.
          let r = among_flat (late_after a) x (joined_lines fronts backs) h in
          let j = among_joined r.0 fronts backs r.1 in
          let marked = a || has_positional j.0 in
          let both : Among x (late_after a j.0 ++ late_after marked j.1) = subst (Among x) (late-append a j.0 j.1) (subst (λ l. Among x (late_after a l)) (sym j.4) r.2) in
          elim (among_cases x (late_after a j.0) (late_after marked j.1) both) [
            | inl k ↦ among_left x left right (in_flat (late_after a) j.0 x fronts j.2 k)
            | inr k ↦ among_right x left right (in_flat (late_after (a || m)) j.1 x backs j.3 (late_more marked (a || m) x j.1 (or_up a (has_positional j.0) a m (λ e. e) (f.each j.0 j.2)) k))
          ]),
      (λ h. elim (among_cases x left right h) [
        | inl k ↦
            let r = among_flat (late_after a) x fronts k in
            let line = b.some.0 in
            in_flat (late_after a) (r.0 ++ line) x (joined_lines fronts backs) (in_joined r.0 line fronts backs r.1 b.some.1) (subst (Among x) (sym (late-append a r.0 line)) (among_left x (late_after a r.0) (late_after (a || has_positional r.0) line) r.2))
        | inr k ↦
            let r = among_flat (late_after (a || m)) x backs k in
            let line = f.some.0 in
            let later : Among x (late_after (a || has_positional line) r.0) = subst (λ c. Among x (late_after (a || c) r.0)) (sym f.some.2) r.2 in
            in_flat (late_after a) (line ++ r.0) x (joined_lines fronts backs) (in_joined line r.0 fronts backs f.some.1 r.1) (subst (Among x) (sym (late-append a line r.0)) (among_right x (late_after a line) (late_after (a || has_positional line) r.0) later))
      ]),
    )

crossed : (x : Numbered) (ws xs ys zs : List Numbered) → Among x ((ws ++ xs) ++ (ys ++ zs)) → Among x ((ws ++ ys) ++ (xs ++ zs))
crossed x ws xs ys zs h = elim (among_cases x (ws ++ xs) (ys ++ zs) h) [
  | inl k ↦ elim (among_cases x ws xs k) [ inl a ↦ among_left x (ws ++ ys) (xs ++ zs) (among_left x ws ys a) | inr a ↦ among_right x (ws ++ ys) (xs ++ zs) (among_left x xs zs a) ]
  | inr k ↦ elim (among_cases x ys zs k) [ inl a ↦ among_left x (ws ++ ys) (xs ++ zs) (among_right x ws ys a) | inr a ↦ among_right x (ws ++ ys) (xs ++ zs) (among_right x xs zs a) ]
]

-- what is late in the lines and scopes of a part and of those after it
late_then : (whole first rest : List Numbered) (scopes others : List Scope) → Same whole (first ++ rest) → Same (whole ++ flat_map late_in (scopes ++ others)) ((first ++ flat_map late_in scopes) ++ (rest ++ flat_map late_in others))
late_then whole first rest scopes others f x =
    let inside = flat_map late_in scopes in
    let later = flat_map late_in others in
    rw (flat_map-append late_in scopes others) (
      (λ h. crossed x first rest inside later (elim (among_cases x whole (inside ++ later) h) [ inl k ↦ among_left x (first ++ rest) (inside ++ later) ((f x).0 k) | inr k ↦ among_right x (first ++ rest) (inside ++ later) k ])),
      (λ h. elim (among_cases x (first ++ rest) (inside ++ later) (crossed x first inside rest later h)) [ inl k ↦ among_left x whole (inside ++ later) ((f x).1 k) | inr k ↦ among_right x whole (inside ++ later) k ]),
    )

-- the check of k items numbered from n on finds the late items of the lines and scopes
record Agrees (n k : ℕ) (lines : List Line) (scopes : List Scope) (check : Bool → Check) : Type 0 where
  mark : Bool
  marks : Marks lines mark
  numbers : (a : Bool) → AreFrom n k (faults lines scopes a)
  finds : (a : Bool) → Finds (faults lines scopes a) (a || mark) (check a)

-- the same for branches, where a branch before them may have set a mark
record BranchesAgree (n k : ℕ) (lines : List Line) (scopes : List Scope) (check : Bool → Bool → Check) : Type 0 where
  mark : Bool
  marks : Marks (at_least_empty lines) mark
  numbers : (a : Bool) → AreFrom n k (faults lines scopes a)
  finds : (a seen : Bool) → (a ≡ true → seen ≡ true) → Finds (faults lines scopes a) (seen || mark) (check a seen)

nothing_agrees : (n k : ℕ) → Agrees n k ([] ∷ []) [] fine
nothing_agrees n k = grind (arith, line_marks, or-false)

joined_agree : (n k j l : ℕ) (fronts backs : List Line) (scopes others : List Scope) (c d : Bool → Check) → l ≡ k + j → Agrees n k fronts scopes c → Agrees (n + k) j backs others d → Agrees n l (joined_lines fronts backs) (scopes ++ others) (λ a. then_check (c a) d)
joined_agree n k j l fronts backs scopes others c d e f g =
    let late : (a : Bool) → Same (faults (joined_lines fronts backs) (scopes ++ others) a) (faults fronts scopes a ++ faults backs others (a || f.mark)) = λ a. late_then _ _ _ scopes others (joined_late a f.mark g.mark fronts backs f.marks g.marks) in
    record {
      mark = f.mark || g.mark;
      marks = joined_marks fronts backs f.mark g.mark f.marks g.marks;
      numbers = λ a. from_then n k j l _ _ _ e (late a) (f.numbers a) (g.numbers (a || f.mark));
      finds = λ a. finds_same _ _ _ _ (then_check (c a) d) (late a) (or_assoc a f.mark g.mark) (finds_then n k j _ _ (a || f.mark) _ (c a) d (f.numbers a) (g.numbers (a || f.mark)) (f.finds a) (g.finds (a || f.mark)));
    }

branch_agrees : (n k j l : ℕ) (lines others : List Line) (scopes more : List Scope) (c : Bool → Check) (d : Bool → Bool → Check) → l ≡ k + j → Agrees n k lines scopes c → BranchesAgree (n + k) j others more d → BranchesAgree n l (lines ++ others) (scopes ++ more) (λ a seen. then_check (c a) (λ b. d a (seen || b)))
branch_agrees n k j l lines others scopes more c d e f g =
    let late : (a : Bool) → Same (faults (lines ++ others) (scopes ++ more) a) (faults lines scopes a ++ faults others more a) = λ a. late_then _ _ _ scopes more (λ x. rw (flat_map-append (late_after a) lines others) ((λ h. h), (λ h. h))) in
    record {
      mark = f.mark || g.mark;
      marks = either_marks f.mark g.mark lines others f.marks g.marks;
      numbers = λ a. from_then n k j l _ _ _ e (late a) (f.numbers a) (g.numbers a);
      finds = λ a seen h.
          let p = a || f.mark in
          finds_same _ _ _ _ (then_check (c a) (λ b. d a (seen || b))) (late a) (grind arith) (finds_then n k j _ _ p _ (c a) (λ b. d a (seen || b)) (f.numbers a) (g.numbers a) (f.finds a) (g.finds a (seen || p) (λ q. or_left seen p (h q))));
    }

branches_agree : (n k : ℕ) (lines : List Line) (scopes : List Scope) (c : Bool → Bool → Check) → BranchesAgree n k lines scopes c → Agrees n k (at_least_empty lines) scopes (λ a. c a a)
branches_agree n k lines scopes c f = record {
  mark = f.mark;
  marks = f.marks;
  numbers = λ a. rw (at_least_late a lines) (f.numbers a);
  finds = λ a. rw (at_least_late a lines) (f.finds a a (λ e. e));
}

-- a tree that is a scope of its own
scope_agrees : (n k : ℕ) (t : Tree) (scopes : List Scope) (c : Bool → Check) → Agrees n k (lines_from n t) scopes c → Agrees n k ([] ∷ []) ((n, t) ∷ scopes) (λ a. then_check (c false) (λ b. fine a))
scope_agrees n k t scopes c f = record {
  mark = false;
  marks = line_marks [] false refl;
  numbers = numbers;
  finds = finds;
}
  where
    numbers : (a : Bool) → AreFrom n k (faults ([] ∷ []) ((n, t) ∷ scopes) a)
    numbers true = f.numbers false
    numbers false = f.numbers false

    finds : (a : Bool) → Finds (faults ([] ∷ []) ((n, t) ∷ scopes) a) (a || false) (then_check (c false) (λ b. fine a))
    finds true = grind (arith, f.finds false)
    finds false = grind (arith, f.finds false)

beside_agrees : (o : Option Leaf) (n k : ℕ) (t : Tree) (scopes : List Scope) (c : Bool → Check) → Agrees n k (lines_from n t) scopes c
    → Agrees n k (if option_map_or is_positional o false then lines_from n t else [] ∷ []) (if option_map_or (λ l. not (is_positional l)) o false then (n, t) ∷ scopes else if option_map_or is_positional o false then scopes else []) (λ a. beside o a (c a) (c false))
beside_agrees None n k t scopes c f = nothing_agrees n k
beside_agrees (Some l) n k t scopes c f = by (is_positional l)
  where
    by : (b : Bool) → Agrees n k (if b then lines_from n t else [] ∷ []) (if not b then (n, t) ∷ scopes else if b then scopes else []) (λ a. if b then c a else then_check (c false) (λ d. fine a))
    by true = f
    by false = scope_agrees n k t scopes c f

-- an item in its line
alone_finds : (c : Bool) (n : ℕ) (l : Leaf) (m : Bool) → Finds (((if c then (n, l) ∷ [] else []) ++ []) ++ []) m (if c then wrong l else fine m)
alone_finds true n l m = (n, inl refl, λ x h. elim h [ inl e ↦ let is : n ≡ x.0 = ap (λ y. y.0) e in omega arith | inr none ↦ absurd none ])
alone_finds false n l m = (refl, λ x h. h)

alone_numbers : (c : Bool) (n : ℕ) (l : Leaf) → AreFrom n 1 (((if c then (n, l) ∷ [] else []) ++ []) ++ [])
alone_numbers c n l h3 h4 = grind arith

alone_agrees : (n : ℕ) (l : Leaf) → Agrees n 1 (((n, l) ∷ []) ∷ []) [] (λ a. if a && not (is_positional l) then wrong l else fine (a || is_positional l))
alone_agrees n l =
    let p = is_positional l in
    record {
      mark = p;
      marks = line_marks ((n, l) ∷ []) p (or-false p);
      numbers = λ a. subst (λ xs. AreFrom n 1 ((xs ++ []) ++ [])) (sym (grind (arith, after_first-later))) (alone_numbers (a && not p) n l);
      finds = λ a. subst (λ xs. Finds ((xs ++ []) ++ []) (a || p) (if a && not p then wrong l else fine (a || p))) (sym (grind (arith, after_first-later))) (alone_finds (a && not p) n l (a || p));
    }

item_agrees : (n : ℕ) (l : Leaf) (scopes : List Scope) (w : Check) → Agrees (n + 1) (length (command_items true l)) ([] ∷ []) scopes (λ a. then_check w (λ b. fine a)) → Agrees n (length (l ∷ command_items true l)) (((n, l) ∷ []) ∷ []) scopes (λ a. if a && not (is_positional l) then wrong l else then_check w (λ b. fine (a || is_positional l)))
item_agrees n l scopes w f =
    let p = is_positional l in
    let g = joined_agree n 1 (length (command_items true l)) _ (((n, l) ∷ []) ∷ []) ([] ∷ []) [] scopes (λ a. if a && not p then wrong l else fine (a || p)) (λ a. then_check w (λ b. fine a)) (omega arith) (alone_agrees n l) f in
    record {
      mark = g.mark;
      marks = g.marks;
      numbers = g.numbers;
      finds = λ a. subst (Finds (faults (((n, l) ∷ []) ∷ []) scopes a) (a || g.mark)) (grind arith) (g.finds a);
    }

mutual
  agrees : (n : ℕ) (t : Tree) → Agrees n (length (items_in true t)) (lines_from n t) (scopes_within n t) (walked t)
  agrees n (and_of ts) = parts_agree n ts
  agrees n (or_of ts) = branches_agree n (length (items_in_parts true ts)) (branch_lines n ts) (scopes_within_parts n ts) (walked_branches ts) (each_agrees n ts)
  agrees n (optional t) = agrees n t
  agrees n (required t) = agrees n t
  agrees n (adjacent t) = beside_agrees (first_item t) n (length (items_in true t)) t (scopes_within n t) (walked t) (agrees n t)
  agrees n (item l) = item_agrees n l (command_scopes (n + 1) l) (walked_within l) (within_agrees (n + 1) l)
  agrees n (many t) = agrees n t
  agrees n (subsection t d) = agrees n t
  agrees n (suffix t d) = agrees n t
  agrees n skip = nothing_agrees n 0
  agrees n (custom_usage t d) = agrees n t
  agrees n (strict t) = agrees n t

  parts_agree : (n : ℕ) (ts : Trees) → Agrees n (length (items_in_parts true ts)) (and_lines n ts) (scopes_within_parts n ts) (walked_parts ts)
  parts_agree n no_trees = nothing_agrees n 0
  parts_agree n (tree t ts) = joined_agree n _ _ _ _ _ _ _ (walked t) (walked_parts ts) (length-append (items_in true t) (items_in_parts true ts)) (agrees n t) (parts_agree (number_after n t) ts)

  each_agrees : (n : ℕ) (ts : Trees) → BranchesAgree n (length (items_in_parts true ts)) (branch_lines n ts) (scopes_within_parts n ts) (walked_branches ts)
  each_agrees n no_trees = record { mark = false; marks = line_marks [] false refl; numbers = λ a x h. absurd h; finds = λ a seen h. (sym (or-false seen), λ x k. k) }
  each_agrees n (tree t ts) = branch_agrees n _ _ _ _ _ _ _ (walked t) (walked_branches ts) (length-append (items_in true t) (items_in_parts true ts)) (agrees n t) (each_agrees (number_after n t) ts)

  within_agrees : (n : ℕ) (l : Leaf) → Agrees n (length (command_items true l)) ([] ∷ []) (command_scopes n l) (λ a. then_check (walked_within l) (λ b. fine a))
  within_agrees n (command c s h t i) = scope_agrees n (length (items_in true t)) t (scopes_within n t) (walked t) (agrees n t)
  within_agrees n l = nothing_agrees n 0

-- the whole tree

found : (t : Tree) → Finds (misplaced_items t) (agrees 0 t).mark (walked t false)
found t = (agrees 0 t).finds false

-- where the check passes no item is misplaced; where it fails its item is the first misplaced one
pub well_placed : (t : Tree) (b : Bool) → walked t false ≡ fine b → IsWellPlaced t
well_placed t b e = let r = subst (Finds (misplaced_items t) (agrees 0 t).mark) e (found t) in none_among (misplaced_items t) r.1

pub first_misplaced : (t : Tree) (l : Leaf) → walked t false ≡ wrong l → IsFirstMisplaced t l
first_misplaced t l e =
    let r = subst (Finds (misplaced_items t) (agrees 0 t).mark) e (found t) in
    (r.0, contains (r.0, l) (misplaced_items t) r.1, all_among (λ x. r.0 ≤ x.0) (misplaced_items t) r.2)
