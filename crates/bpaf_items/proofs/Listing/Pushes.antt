-- What a look back sees after one more entry.
use Rattle.std.specs.Prelude.{if◌then◌else◌, ◌++◌, ◌+◌, ◌∷◌, ◌≡◌}
use Rattle.bpaf_items.proofs.Words.{ℕ, Bool, true, false, not, List, [], refl, ap, ◌∙◌, append-nil, arith, count_by, Option, Some, option_map_or, last_or, after_last, filter-append, sum_by_push, reverse-append, drop-append-le, drop_all, length-append, Entry, is_group_start, is_group_mark, is_adjacent_start, is_adjacent_mark, last_that, is_group_open, is_in_group, outside_groups}
use Rattle.bpaf_items.proofs.Listing.Placing.{outside_groups-push}

pub last_or-push : {X : Type 0} (o : Option X) (xs : List X) (x : X) → last_or o (xs ++ x ∷ []) ≡ Some x
last_or-push o [] x = refl
last_or-push o (y ∷ xs) x = last_or-push (Some y) xs x

pub last_that-push : (p : Entry → Bool) (es : List Entry) (e : Entry) → last_that p (es ++ e ∷ []) ≡ (if p e then Some e else last_that p es)
last_that-push p es e = grind (arith, filter-append, last_or-push, append-nil)

pub count-push : (p : Entry → Bool) (es : List Entry) (e : Entry) → count_by p (es ++ e ∷ []) ≡ count_by p es + (if p e then 1 else 0)
count-push p es e = sum_by_push (λ x. if p x then 1 else 0) es e

-- what stands after the last that passes
pub after_last-push : {X : Type 0} (p : X → Bool) (xs : List X) (x : X) → after_last p (xs ++ x ∷ []) ≡ (if p x then [] else after_last p xs ++ x ∷ [])
after_last-push {X = X} p xs x = grind (arith, reverse-append, drop_all, drop-append-le, length-append)

-- counts since the last group start
abbrev pub since_start : (Entry → Bool) → List Entry → ℕ
since_start p es = count_by p (after_last is_group_start es)

pub since_start-push : (p : Entry → Bool) (es : List Entry) (e : Entry) → since_start p (es ++ e ∷ []) ≡ (if is_group_start e then 0 else since_start p es + (if p e then 1 else 0))
since_start-push p es e = grind (arith, after_last-push, count-push)

pub open-push : (es : List Entry) (e : Entry) → is_group_open (es ++ e ∷ []) ≡ (if is_group_mark e then is_group_start e else is_group_open es)
open-push es e = grind (arith, last_that-push)

-- outside groups the last adjacent mark is a start
abbrev pub is_block_open : List Entry → Bool
is_block_open es = option_map_or is_adjacent_start (last_that is_adjacent_mark (outside_groups es)) false

pub inside-push : (es : List Entry) (e : Entry) → is_in_group (es, e) ≡ true → outside_groups (es ++ e ∷ []) ≡ outside_groups es
inside-push es e h = outside_groups-push es e ∙ ap (λ b. outside_groups es ++ (if not b then e ∷ [] else [])) h ∙ append-nil (outside_groups es)

pub block_open-push : (es : List Entry) (e : Entry) → is_in_group (es, e) ≡ false → is_block_open (es ++ e ∷ []) ≡ (if is_adjacent_mark e then is_adjacent_start e else is_block_open es)
block_open-push es e h = grind (arith, outside_groups-push, last_that-push)
