-- A list that grows begins with what it was.
use Rattle.std.specs.Prelude.{if◌then◌else◌, ◌++◌, ◌∷◌, ◌≡◌}
use Rattle.bpaf_items.proofs.Words.{List, [], ap, sym, ◌∙◌, append_assoc, append-nil, arith, flat_map, Option, None, option_or, flat_map-append, Tree, Leaf, HiTy, Entry, entry_of_item, item_entries, item_list, IsItemList, is_listed, IsFront}

pub front_whole : {X : Type 0} (xs : List X) → IsFront xs xs
front_whole xs = ([], sym (append-nil xs))

pub front_then : {X : Type 0} (xs ys zs : List X) → IsFront xs ys → IsFront ys zs → IsFront xs zs
front_then xs ys zs f g = (f.0 ++ g.0, g.1 ∙ ap (λ ws. ws ++ g.0) f.1 ∙ append_assoc xs f.0 g.0)

-- a turn of a loop that appends: what was appended, and what is still to come
pub append_turn : {X : Type 0} (now after first second all rest : List X) → after ≡ now ++ first → rest ≡ first ++ second → now ++ rest ≡ all → after ++ second ≡ all
append_turn now after first second all rest e h k = ap (λ ws. ws ++ second) e ∙ append_assoc now first second ∙ ap (λ ws. now ++ ws) (sym h) ∙ k

pub listed_entries : (l : Leaf) → item_entries l ≡ (if is_listed l then entry_of_item l ∷ [] else [])
listed_entries l = grind arith

-- one more tree
pub IsItemList-append : (es : List Entry) (t : Tree) → IsItemList es → IsItemList (es ++ item_list t)
IsItemList-append es t (ts, e) = (ts ++ t ∷ [], ap (λ fs. fs ++ item_list t) e ∙ ap (λ fs. flat_map item_list ts ++ fs) (sym (append-nil (item_list t))) ∙ sym (flat_map-append item_list ts (t ∷ [])))

-- a choice of two that gives nothing
pub none_first : (o p : Option HiTy) → option_or o p ≡ None → o ≡ None
none_first o p h2 = grind arith

pub none_second : (o p : Option HiTy) → option_or o p ≡ None → p ≡ None
none_second o p h2 = grind arith
