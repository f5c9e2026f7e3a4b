-- In an item list, what has help or is in no adjacent block falls under a group or a heading.
use Rattle.std.specs.Prelude.{if◌then◌else◌, ◌++◌, ◌+◌, ◌<◌, ◌∷◌, ◌≡◌, ◌≢◌, ◌≤◌, ◌⊎◌}
use Rattle.bpaf_items.proofs.Words.{ℕ, Bool, true, false, not, List, [], refl, sym, ap, ◌∙◌, subst, append_assoc, append-nil, arith, IsTrue, All, count_by, Option, option_map_or, le-ltb, or_parts, false_from_ne_true, All-nil, All-cons, All-append, All-same, Part, Tree, HiTy, Entry, group_start, group_end, adjacent_start, adjacent_stop, Placed, placed_after, group, nowhere, lacks_help, is_mark, is_group_mark, is_group_start, is_group_end, is_adjacent_start, is_adjacent_stop, is_adjacent_mark, is_group_open, is_in_group, last_that, outside_groups, heading_after, group_destination, heading_destination, destination, IsInNoAdjacentBlock, FallsSomewhere}
use Rattle.bpaf_items.proofs.Listing.Placing.{placed_after-append}
use Rattle.bpaf_items.proofs.Listing.Blocks.{Blocks, none, plain, block, grouped, joined, starts_in, stops_in, even, count-append, item_list_blocks}
use Rattle.bpaf_items.proofs.Listing.Pushes.{count-push, since_start, since_start-push, open-push, is_block_open, inside-push, block_open-push}

-- ---- what has help

group_falls : (p : Placed) → lacks_help p.1 ≡ false → group_destination p ≢ nowhere
group_falls p h e = let kept : group (count_by is_group_start (p.0 ++ p.1 ∷ [])) ≡ nowhere = rw h at e in cc

heading_after_falls : (mark : Option Entry) (e : Entry) → lacks_help e ≡ false → heading_after mark e ≢ nowhere
heading_after_falls mark e h2 = grind arith

pub help_falls : (p : Placed) → lacks_help p.1 ≡ false → destination p ≢ nowhere
help_falls p h = grind (arith, group_falls, heading_after_falls)

-- ---- what is in no adjacent block

-- of the entries before: no more starts are open in the group than in all, and an open block outside groups is counted
record Fits (before : List Entry) : Type 0 where
  pub since : since_start is_adjacent_start before + stops_in before ≤ since_start is_adjacent_stop before + starts_in before
  pub outer : is_group_open before ≡ false → is_block_open before ≡ true → stops_in before < starts_in before

alone_in_group : (p : Placed) → Fits p.0 → IsInNoAdjacentBlock p → group_destination p ≢ nowhere
alone_in_group p f h = grind (arith, le-ltb)

alone_after : (o : Option Entry) (e : Entry) → option_map_or is_adjacent_start o false ≡ false → heading_after o e ≢ nowhere
alone_after o e h2 = grind arith

alone_outside : (p : Placed) → Fits p.0 → IsInNoAdjacentBlock p → is_in_group p ≡ false → heading_destination p ≢ nowhere
alone_outside p f h out = grind (arith, or_parts, alone_after, false_from_ne_true)

abbrev Falls : Placed → Type 0
Falls p = IsTrue (not (lacks_help p.1)) ⊎ IsInNoAdjacentBlock p → destination p ≢ nowhere

falls_at : (p : Placed) → Fits p.0 → Falls p
falls_at p h1 h2 = grind (arith, help_falls, alone_in_group, alone_outside)

-- ---- through an item list

-- where groups are allowed, no group is open; stops never outnumber starts
record Stands (g : Bool) (before : List Entry) : Type 0 where
  pub deep : stops_in before ≤ starts_in before
  pub fits : Fits before
  pub inside : is_group_open before ≡ not g

record Goes (g : Bool) (before es : List Entry) : Type 0 where
  pub falls : All Falls (placed_after before es)
  pub stands : Stands g (before ++ es)
  pub same : g ≡ false → outside_groups (before ++ es) ≡ outside_groups before

one_falls : (before : List Entry) (e : Entry) → Fits before → All Falls (placed_after before (e ∷ []))
one_falls before e f = All-cons Falls (before, e) [] (falls_at (before, e) f) (All-nil Falls)

join_falls : (before es fs : List Entry) → All Falls (placed_after before es) → All Falls (placed_after (before ++ es) fs) → All Falls (placed_after before (es ++ fs))
join_falls before es fs f h = All-same Falls (placed_after before (es ++ fs)) (placed_after before es ++ placed_after (before ++ es) fs) (placed_after-append before es fs) (All-append Falls (placed_after before es) (placed_after (before ++ es) fs) f h)

-- what is known before an entry that is not a group mark is known after it
after_entry : (g : Bool) (before : List Entry) (e : Entry) → is_group_mark e ≡ false → Stands g before
    → (starts stops : ℕ) → (if is_adjacent_start e then 1 else 0) ≡ starts → (if is_adjacent_stop e then 1 else 0) ≡ stops
    → stops_in before + stops ≤ starts_in before + starts
    → (is_group_open before ≡ false → is_block_open (before ++ e ∷ []) ≡ true → stops_in before + stops < starts_in before + starts)
    → Stands g (before ++ e ∷ [])
after_entry g before e h s starts stops is_starts is_stops deep outer = grind (arith, or_parts (is_group_start e) (is_group_end e) h, count-push is_adjacent_start before e, count-push is_adjacent_stop before e, since_start-push is_adjacent_start before e, since_start-push is_adjacent_stop before e, open-push before e)

in_group_here : (before : List Entry) (e : Entry) → is_group_mark e ≡ false → is_in_group (before, e) ≡ is_group_open before
in_group_here before e h = rw h refl

single : (g : Bool) (before : List Entry) (e : Entry) → is_group_mark e ≡ false → Stands g before → Stands g (before ++ e ∷ []) → Goes g before (e ∷ [])
single g before e h s t = grind (arith, one_falls, inside-push, in_group_here)

after_start : (g : Bool) (before : List Entry) (t : Tree) (k : HiTy) → Stands g before → Stands g (before ++ adjacent_start t k ∷ [])
after_start g before t k s = grind (arith, after_entry g before (adjacent_start t k) refl s 1 0 refl refl (omega arith))

after_stop : (g : Bool) (before : List Entry) (k : HiTy) → Stands g before → stops_in before < starts_in before → Stands g (before ++ adjacent_stop k ∷ [])
after_stop g before k s less = grind (arith, after_entry g before (adjacent_stop k) refl s 0 1 refl refl (omega arith), block_open-push before (adjacent_stop k), in_group_here before (adjacent_stop k) refl)

after_plain : (g : Bool) (before : List Entry) (e : Entry) → is_mark e ≡ false → Stands g before → Stands g (before ++ e ∷ [])
after_plain g before e h s = grind (arith, or_parts (is_group_mark e) (is_adjacent_mark e) h, or_parts (is_adjacent_start e) (is_adjacent_stop e), block_open-push before e, in_group_here before e, after_entry g before e)

-- one list after another
go_on : (g : Bool) (before es fs : List Entry) → Goes g before es → Goes g (before ++ es) fs → Goes g before (es ++ fs)
go_on g before es fs f h = grind (arith, append_assoc, join_falls)

-- a group opens, and closes as it opened
after_group_start : (before : List Entry) (d : List Part) (k : HiTy) → Stands true before → Stands false (before ++ group_start d k ∷ [])
after_group_start before d k s = grind (arith, count-push is_adjacent_start before, count-push is_adjacent_stop before, since_start-push is_adjacent_start before, since_start-push is_adjacent_stop before, open-push before)

after_group_end : (before : List Entry) (k : HiTy) → Stands false before → (is_block_open before ≡ true → stops_in before < starts_in before) → Stands true (before ++ group_end k ∷ [])
after_group_end before k s outer = grind (arith, count-push is_adjacent_start before, count-push is_adjacent_stop before, since_start-push is_adjacent_start before, since_start-push is_adjacent_stop before, open-push before, inside-push before)

group_goes : (before : List Entry) (d : List Part) (k : HiTy) (inner : List Entry) → Stands true before → starts_in inner ≡ stops_in inner → Goes false (before ++ group_start d k ∷ []) inner
    → Goes true before (group_start d k ∷ (inner ++ group_end k ∷ []))
group_goes before d k inner s same held =
    let opened : List Entry = before ++ group_start d k ∷ [] in
    let all : List Entry = opened ++ inner in
    let a : starts_in all ≡ (starts_in before + 0) + starts_in inner = count-append is_adjacent_start opened inner ∙ ap (λ n. n + starts_in inner) (count-push is_adjacent_start before (group_start d k)) in
    let z : stops_in all ≡ (stops_in before + 0) + stops_in inner = count-append is_adjacent_stop opened inner ∙ ap (λ n. n + stops_in inner) (count-push is_adjacent_stop before (group_start d k)) in
    let outside : outside_groups all ≡ outside_groups before = held.same refl ∙ inside-push before (group_start d k) refl in
    let outer : is_block_open all ≡ true → stops_in all < starts_in all
    = λ b. let less : stops_in before < starts_in before = s.fits.outer s.inside (ap (λ fs. option_map_or is_adjacent_start (last_that is_adjacent_mark fs) false) (sym outside) ∙ b) in rw (a, z) (omega arith) in
    let moved : (all ++ group_end k ∷ []) ≡ before ++ (group_start d k ∷ (inner ++ group_end k ∷ [])) = append_assoc opened inner (group_end k ∷ []) ∙ append_assoc before (group_start d k ∷ []) (inner ++ group_end k ∷ []) in
    record {
      falls = join_falls before (group_start d k ∷ []) (inner ++ group_end k ∷ []) (one_falls before (group_start d k) s.fits) (join_falls opened inner (group_end k ∷ []) held.falls (one_falls all (group_end k) held.stands.fits));
      stands = subst (Stands true) moved (after_group_end all k held.stands outer);
      same = λ no. cc;
    }

goes : {g : Bool} {es : List Entry} → Blocks g es → (before : List Entry) → Stands g before → Goes g before es
goes {g} (none is) before s = rw is (record { falls = All-nil Falls; stands = subst (Stands g) (sym (append-nil before)) s; same = λ no_group. ap outside_groups (append-nil before) })
goes {g} (plain e is h) before s =
    rw is (single g before e (or_parts (is_group_mark e) (is_adjacent_mark e) h).0 s (after_plain g before e h s))
goes {g} (block t k inner is b) before s =
    let opened : Stands g (before ++ adjacent_start t k ∷ []) = after_start g before t k s in
    let held : Goes g (before ++ adjacent_start t k ∷ []) inner = goes b (before ++ adjacent_start t k ∷ []) opened in
    let same : starts_in inner ≡ stops_in inner = even b in
    let a : starts_in ((before ++ adjacent_start t k ∷ []) ++ inner) ≡ (starts_in before + 1) + starts_in inner = count-append is_adjacent_start (before ++ adjacent_start t k ∷ []) inner ∙ ap (λ n. n + starts_in inner) (count-push is_adjacent_start before (adjacent_start t k)) in
    let z : stops_in ((before ++ adjacent_start t k ∷ []) ++ inner) ≡ (stops_in before + 0) + stops_in inner = count-append is_adjacent_stop (before ++ adjacent_start t k ∷ []) inner ∙ ap (λ n. n + stops_in inner) (count-push is_adjacent_stop before (adjacent_start t k)) in
    let deep : stops_in before ≤ starts_in before = s.deep in
    let less : stops_in ((before ++ adjacent_start t k ∷ []) ++ inner) < starts_in ((before ++ adjacent_start t k ∷ []) ++ inner) = rw (a, z) (omega arith) in
    let stopped : Stands g (((before ++ adjacent_start t k ∷ []) ++ inner) ++ adjacent_stop k ∷ []) = after_stop g ((before ++ adjacent_start t k ∷ []) ++ inner) k held.stands less in
    rw is
    (go_on g before (adjacent_start t k ∷ []) (inner ++ adjacent_stop k ∷ []) (single g before (adjacent_start t k) refl s opened)
    (go_on g (before ++ adjacent_start t k ∷ []) inner (adjacent_stop k ∷ []) held (single g ((before ++ adjacent_start t k ∷ []) ++ inner) (adjacent_stop k) refl held.stands stopped)))
goes {g} (grouped d k inner is_true is b) before s = grind (arith, goes b (before ++ group_start d k ∷ []), group_goes before d k inner, even b, after_group_start before d k)
goes {g} (joined front back is b c) before s =
    let first : Goes g before front = goes b before s in
    rw is (go_on g before front back first (goes c (before ++ front) first.stands))

nothing_before : Stands true []
nothing_before = record { deep = omega arith; fits = record { since = omega arith; outer = λ o b. cc }; inside = refl }

pub falls_somewhere : FallsSomewhere
falls_somewhere es is = (goes (item_list_blocks es is) [] nothing_before).falls
