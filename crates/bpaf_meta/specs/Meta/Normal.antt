-- The normal form of a tree: the table of `normalized`, a row for each form of tree.
use Rattle.std.specs.Prelude.{Bool, true, false, if◌then◌else◌, List, [], ◌∷◌}
use Rattle.bpaf_doc.specs.Buffer.Parts.{Part}
use Rattle.bpaf_meta.specs.Content.{Name, short, long, both, Tree, and_of, or_of, optional, required, adjacent, item, many, subsection, suffix, skip, custom_usage, strict, Trees, no_trees, tree, Leaf, command, flag, argument}

-- whether a `--` is still to be shown (pull), is asked for (push), or is shown already (strip)
pub data State : Type 0 where
  pull : State
  push : State
  strip : State

-- the parts that are not Skip
abbrev pub without_skips : Trees → Trees
without_skips no_trees = no_trees
without_skips (tree skip ts) = without_skips ts
without_skips (tree t ts) = tree t (without_skips ts)

-- an And of the parts: none left is Skip, one stands alone
abbrev pub and_form : Trees → Tree
and_form no_trees = skip
and_form (tree t no_trees) = t
and_form (tree t (tree v ts)) = and_of (tree t (tree v ts))

-- an Or of the parts: none left is Skip, one stands alone, more stand in a Required
abbrev pub or_form : Trees → Tree
or_form no_trees = skip
or_form (tree t no_trees) = t
or_form (tree t (tree v ts)) = required (or_of (tree t (tree v ts)))

-- an item that is a command, also inside Subsection
abbrev pub is_command_tree : Tree → Bool
is_command_tree (item (command n c h t i)) = true
is_command_tree (subsection t d) = is_command_tree t
is_command_tree t = false

-- the parts that are not commands
abbrev pub without_commands : Trees → Trees
without_commands no_trees = no_trees
without_commands (tree t ts) = if is_command_tree t then without_commands ts else tree t (without_commands ts)

-- the parts, but only the first of the commands
abbrev pub with_first_command : Trees → Trees
with_first_command no_trees = no_trees
with_first_command (tree t ts) = tree t (if is_command_tree t then without_commands ts else with_first_command ts)

abbrev pub optional_many_form : Tree → Tree
optional_many_form (required t) = many (optional t)
optional_many_form t = optional (many t)

abbrev pub optional_form : Tree → Tree
optional_form skip = skip
optional_form (required t) = optional t
optional_form (optional t) = optional t
optional_form (many t) = optional_many_form t
optional_form t = optional t

abbrev pub required_form : Tree → Tree
required_form skip = skip
required_form (and_of ts) = required (and_of ts)
required_form (or_of ts) = required (or_of ts)
required_form t = t

abbrev pub many_form : Tree → Tree
many_form skip = skip
many_form t = many t

-- in usage Skip where the document has no parts, else unchanged; outside usage the inner tree
abbrev pub custom_usage_form : Bool → Tree → List Part → Tree
custom_usage_form false t d = t
custom_usage_form true t [] = skip
custom_usage_form true t (p ∷ d) = custom_usage t (p ∷ d)

-- `Both` is Short in usage, Long outside
abbrev pub name_form : Bool → Name → Name
name_form true (both c n) = short c
name_form false (both c n) = long n
name_form u n = n

abbrev pub item_form : Bool → Leaf → Leaf
item_form u (flag n s e h) = flag (name_form u n) s e h
item_form u (argument n s m e h) = argument (name_form u n) s m e h
item_form u l = l

-- the state out of a Strict
abbrev pub strict_state : State → State
strict_state pull = push
strict_state s = s

-- a tree, which goes into Strict where the state so far is Pull and the tree gives Push
abbrev pub strict_if_asked : (so_far given : State) → Tree → Tree
strict_if_asked pull push t = strict t
strict_if_asked so_far given t = t

-- the running state after a part: Strip where it was Pull and the part gives Push or Strip
abbrev pub state_after : (running given : State) → State
state_after pull push = strip
state_after pull strip = strip
state_after running given = running

-- the two columns of the table: what a tree becomes from a state, and the state out
abbrev mutual
  pub normal_form : (usage : Bool) → State → Tree → Tree
  normal_form u s (and_of ts) = and_form (without_skips (and_parts u s ts))
  normal_form u s (or_of ts) = or_form (with_first_command (without_skips (or_parts u s s ts)))
  normal_form u s (optional t) = optional_form (normal_form u s t)
  normal_form u s (required t) = required_form (normal_form u s t)
  normal_form u s (many t) = many_form (normal_form u s t)
  normal_form u s (adjacent t) = normal_form u s t
  normal_form u s (subsection t d) = normal_form u s t
  normal_form u s (suffix t d) = normal_form u s t
  normal_form u s (custom_usage t d) = custom_usage_form u (normal_form u s t) d
  normal_form u s (strict t) = normal_form u s t
  normal_form u s (item l) = item (item_form u l)
  normal_form u s skip = skip

  pub state_out : State → Tree → State
  state_out s (and_of ts) = s
  state_out s (or_of ts) = or_state s s ts
  state_out s (optional t) = state_out s t
  state_out s (required t) = state_out s t
  state_out s (many t) = state_out s t
  state_out s (adjacent t) = state_out s t
  state_out s (subsection t d) = state_out s t
  state_out s (suffix t d) = state_out s t
  state_out s (custom_usage t d) = state_out s t
  state_out s (strict t) = strict_state (state_out s t)
  state_out s (item l) = s
  state_out s skip = s

  -- the parts of an And, each from the running state
  pub and_parts : (usage : Bool) → (running : State) → Trees → Trees
  and_parts u running no_trees = no_trees
  and_parts u running (tree t ts) =
      tree (strict_if_asked running (state_out running t) (normal_form u running t))
      (and_parts u (state_after running (state_out running t)) ts)

  -- the parts of an Or, each from the state that came in, put in Strict by the final state so far
  pub or_parts : (usage : Bool) → State → (final : State) → Trees → Trees
  or_parts u s final no_trees = no_trees
  or_parts u s final (tree t ts) =
      tree (strict_if_asked final (state_out s t) (normal_form u s t)) (or_parts u s (state_after final (state_out s t)) ts)

  pub or_state : State → (final : State) → Trees → State
  or_state s final no_trees = final
  or_state s final (tree t ts) = or_state s (state_after final (state_out s t)) ts

-- one outer Required is removed, then Required is put around a bare Or
abbrev pub outer_form : Tree → Tree
outer_form (required (or_of ts)) = required (or_of ts)
outer_form (required t) = t
outer_form (or_of ts) = required (or_of ts)
outer_form t = t

-- the normal form of a tree: from the state Pull, in Strict where the state comes out as Push
-- e.g. normalized true (and_of (two v (optional (strict FILE)))) ≡ and_of (two v (strict (optional FILE)))
abbrev pub normalized : (usage : Bool) → Tree → Tree
normalized u t = strict_if_asked pull (state_out pull t) (outer_form (normal_form u pull t))
