-- The positional check as it goes through a tree. These definitions only lead from the code to `Misplaced`.
use Rattle.std.specs.Prelude.{◌≡◌, Bool, false, ◌&&◌, ◌||◌, not, if◌then◌else◌, Option, Some, None, Result, Ok, Err, IfSome}
use Rattle.std.specs.Borrow.{Bor}
use Rattle.bpaf_meta.specs.Content.{Tree, and_of, or_of, optional, required, adjacent, item, many, subsection, suffix, skip, custom_usage, strict, Trees, no_trees, tree, Leaf, command}
use Rattle.bpaf_meta.specs.View.{leaf_of}
use Rattle.bpaf_meta.specs.declared.item.Item.{Item}
use Rattle.bpaf_meta.specs.Meta.Misplaced.{is_positional, first_item}

-- whether a positional item was seen, or the first misplaced item
pub data Check : Type 0 where
  fine : Bool → Check
  wrong : Leaf → Check

abbrev pub then_check : Check → (Bool → Check) → Check
then_check (fine b) f = f b
then_check (wrong l) f = wrong l

-- at the first item of an Adjacent: it stands in its line, or it is a scope of its own
abbrev pub beside : Option Leaf → (mark : Bool) → (in_line alone : Check) → Check
beside None a w v = fine a
beside (Some l) a w v = if is_positional l then w else then_check v (λ b. fine a)

abbrev mutual
  pub walked : Tree → Bool → Check
  walked (and_of ts) a = walked_parts ts a
  walked (or_of ts) a = walked_branches ts a a
  walked (optional t) a = walked t a
  walked (required t) a = walked t a
  walked (adjacent t) a = beside (first_item t) a (walked t a) (walked t false)
  walked (item l) a =
      if a && not (is_positional l) then wrong l else then_check (walked_within l) (λ b. fine (a || is_positional l))
  walked (many t) a = walked t a
  walked (subsection t d) a = walked t a
  walked (suffix t d) a = walked t a
  walked skip a = fine a
  walked (custom_usage t d) a = walked t a
  walked (strict t) a = walked t a

  -- a command's own tree
  pub walked_within : Leaf → Check
  walked_within (command n s h t i) = walked t false
  walked_within l = fine false

  pub walked_parts : Trees → Bool → Check
  walked_parts no_trees a = fine a
  walked_parts (tree t ts) a = then_check (walked t a) (λ b. walked_parts ts b)

  pub walked_branches : Trees → Bool → Bool → Check
  walked_branches no_trees a seen = fine seen
  walked_branches (tree t ts) a seen = then_check (walked t a) (λ b. walked_branches ts a (seen || b))

abbrev pub check_of : {A : Type 0} → Result Bool (Bor (Item A)) → Check
check_of (Ok b) = fine b
check_of (Err i) = wrong (leaf_of i.now)

-- an item that is given is the first one
abbrev pub IsKnown : {A : Type 0} → Option (Bor (Item A)) → Option Leaf → Type 0
IsKnown known first = IfSome known (λ i. first ≡ Some (leaf_of i.now))
