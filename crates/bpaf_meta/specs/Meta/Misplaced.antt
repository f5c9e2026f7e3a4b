-- Named items that stand after a positional one. Each item goes with its number in tree order, so that two equal items
-- are two.
use Rattle.std.specs.Prelude.{◌≡◌, ℕ, ◌+◌, ◌≤◌, Bool, true, false, not, if◌then◌else◌, List, [], ◌∷◌, ◌++◌, length, map, flat_map, filter, All, Contains, Option, Some, None}
use Rattle.std.specs.Option.{option_map_or}
use Rattle.std.specs.List.{after_first}
use Rattle.bpaf_meta.specs.Content.{Tree, and_of, or_of, optional, required, adjacent, item, many, subsection, suffix, skip, custom_usage, strict, Trees, no_trees, tree, Leaf, any, positional, command}

-- whether an item is taken by its place, and not by a name
abbrev pub is_positional : Leaf → Bool
is_positional (any m a h) = not a
is_positional (positional m h) = true
is_positional (command n c h t i) = true
is_positional l = false

-- an item itself; for an And that of its first part; none for an Or and for Skip; else that of the inner tree
abbrev mutual
  pub first_item : Tree → Option Leaf
  first_item (and_of ts) = first_item_of_parts ts
  first_item (or_of ts) = None
  first_item (optional t) = first_item t
  first_item (required t) = first_item t
  first_item (adjacent t) = first_item t
  first_item (item l) = Some l
  first_item (many t) = first_item t
  first_item (subsection t d) = first_item t
  first_item (suffix t d) = first_item t
  first_item skip = None
  first_item (custom_usage t d) = first_item t
  first_item (strict t) = first_item t

  pub first_item_of_parts : Trees → Option Leaf
  first_item_of_parts no_trees = None
  first_item_of_parts (tree t ts) = first_item t

-- whether there is a first item, and it is positional; whether there is one, and it is named
abbrev pub begins_positional : Tree → Bool
begins_positional t = option_map_or is_positional (first_item t) false

abbrev pub begins_named : Tree → Bool
begins_named t = option_map_or (λ l. not (is_positional l)) (first_item t) false

-- The items in tree order, those inside a Strict only if asked for: positions count them, short names do not. Those of
-- a command's own tree come right after the command.
abbrev mutual
  pub items_in : (inside_strict : Bool) → Tree → List Leaf
  items_in s (and_of ts) = items_in_parts s ts
  items_in s (or_of ts) = items_in_parts s ts
  items_in s (optional t) = items_in s t
  items_in s (required t) = items_in s t
  items_in s (adjacent t) = items_in s t
  items_in s (item l) = l ∷ command_items s l
  items_in s (many t) = items_in s t
  items_in s (subsection t d) = items_in s t
  items_in s (suffix t d) = items_in s t
  items_in s skip = []
  items_in s (custom_usage t d) = items_in s t
  items_in true (strict t) = items_in true t
  items_in false (strict t) = []

  pub items_in_parts : (inside_strict : Bool) → Trees → List Leaf
  items_in_parts s no_trees = []
  items_in_parts s (tree t ts) = items_in s t ++ items_in_parts s ts

  pub command_items : (inside_strict : Bool) → Leaf → List Leaf
  command_items s (command n c h t i) = items_in s t
  command_items s l = []

-- the number that comes after a tree whose items are numbered from n on
abbrev pub number_after : ℕ → Tree → ℕ
number_after n t = n + length (items_in true t)

-- an item with its number
abbrev pub Numbered : Type 0
Numbered = ℕ × Leaf

abbrev pub Line : Type 0
Line = List Numbered

-- each line of the first followed by each line of the second
abbrev pub joined_lines : List Line → List Line → List Line
joined_lines fronts backs = flat_map (λ front. map (λ back. front ++ back) backs) fronts

-- the lines, or the one empty line where there are none
abbrev pub at_least_empty : List Line → List Line
at_least_empty [] = [] ∷ []
at_least_empty (line ∷ lines) = line ∷ lines

-- the lines of a scope whose items are numbered from n on: one for each way to pick a branch of each Or; an Adjacent
-- gives its items only if its first one is positional
abbrev mutual
  pub lines_from : ℕ → Tree → List Line
  lines_from n (and_of ts) = and_lines n ts
  lines_from n (or_of ts) = at_least_empty (branch_lines n ts)
  lines_from n (optional t) = lines_from n t
  lines_from n (required t) = lines_from n t
  lines_from n (adjacent t) = if begins_positional t then lines_from n t else [] ∷ []
  lines_from n (item l) = ((n, l) ∷ []) ∷ []
  lines_from n (many t) = lines_from n t
  lines_from n (subsection t d) = lines_from n t
  lines_from n (suffix t d) = lines_from n t
  lines_from n skip = [] ∷ []
  lines_from n (custom_usage t d) = lines_from n t
  lines_from n (strict t) = lines_from n t

  -- one line of each part, in order
  pub and_lines : ℕ → Trees → List Line
  and_lines n no_trees = [] ∷ []
  and_lines n (tree t ts) = joined_lines (lines_from n t) (and_lines (number_after n t) ts)

  -- the lines of every branch
  pub branch_lines : ℕ → Trees → List Line
  branch_lines n no_trees = []
  branch_lines n (tree t ts) = lines_from n t ++ branch_lines (number_after n t) ts

-- a tree whose items are numbered from a number on
abbrev pub Scope : Type 0
Scope = ℕ × Tree

-- the scopes inside a tree: each command's own tree, and the inner tree of each Adjacent whose first item is named;
-- the inside of an Adjacent without a first item is not reached
abbrev mutual
  pub scopes_within : ℕ → Tree → List Scope
  scopes_within n (and_of ts) = scopes_within_parts n ts
  scopes_within n (or_of ts) = scopes_within_parts n ts
  scopes_within n (optional t) = scopes_within n t
  scopes_within n (required t) = scopes_within n t
  scopes_within n (adjacent t) =
      if begins_named t then (n, t) ∷ scopes_within n t else if begins_positional t then scopes_within n t else []
  scopes_within n (item l) = command_scopes (n + 1) l
  scopes_within n (many t) = scopes_within n t
  scopes_within n (subsection t d) = scopes_within n t
  scopes_within n (suffix t d) = scopes_within n t
  scopes_within n skip = []
  scopes_within n (custom_usage t d) = scopes_within n t
  scopes_within n (strict t) = scopes_within n t

  pub scopes_within_parts : ℕ → Trees → List Scope
  scopes_within_parts n no_trees = []
  scopes_within_parts n (tree t ts) = scopes_within n t ++ scopes_within_parts (number_after n t) ts

  pub command_scopes : ℕ → Leaf → List Scope
  command_scopes n (command name c h t i) = (n, t) ∷ scopes_within n t
  command_scopes n l = []

-- the tree itself, and the scopes inside it
abbrev pub scopes_of : Tree → List Scope
scopes_of t = (0, t) ∷ scopes_within 0 t

-- the named items of a line that stand after a positional one
abbrev pub late_items : Line → List Numbered
late_items line = filter (λ x. not (is_positional x.1)) (after_first (λ x. is_positional x.1) line)

-- the misplaced items: the late items of all lines of all scopes
-- e.g. misplaced_items (and_of (two FILE v)) ≡ (1, flag (short 118) [] None None) ∷ []
abbrev pub misplaced_items : Tree → List Numbered
misplaced_items t = flat_map (λ s. flat_map late_items (lines_from s.0 s.1)) (scopes_of t)

-- no item is misplaced
abbrev pub IsWellPlaced : Tree → Type 0
IsWellPlaced t = misplaced_items t ≡ []

-- the item is misplaced, and none before it in tree order is
abbrev pub IsFirstMisplaced : Tree → Leaf → Type 0
IsFirstMisplaced t l = (n : ℕ) × Contains (misplaced_items t) (n, l) × All (λ x. n ≤ x.0) (misplaced_items t)
