-- What the steps of `normalized` leave. These definitions only lead from the code to the table of `Normal`.
use Rattle.std.specs.Prelude.{Bool, true, false, ◌||◌, if◌then◌else◌}
use Rattle.bpaf_meta.specs.declared.meta.normal.State.TheVariants as code
use Rattle.bpaf_meta.specs.declared.meta.normal.State as declared
use Rattle.bpaf_meta.specs.Content.{Tree, skip, Trees, no_trees, tree}
use Rattle.bpaf_meta.specs.Meta.Normal.{State, pull, push, strip, is_command_tree, without_commands, with_first_command}

abbrev pub state_of : declared.State → State
state_of code.Pull = pull
state_of code.Push = push
state_of code.Strip = strip

abbrev pub is_skip_tree : Tree → Bool
is_skip_tree skip = true
is_skip_tree t = false

-- a part alone, or none where it is Skip
abbrev pub unless_skip : Tree → Trees
unless_skip t = if is_skip_tree t then no_trees else tree t no_trees

-- the parts without commands where one was seen before, otherwise with the first of them
abbrev pub after_commands : (seen : Bool) → Trees → Trees
after_commands true ts = without_commands ts
after_commands false ts = with_first_command ts

abbrev pub sees_command : (seen : Bool) → Tree → Bool
sees_command seen t = seen || is_command_tree t
