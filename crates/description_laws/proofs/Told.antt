-- Levels on which no two commands have one name, and what holds of each name.
use Rattle.std.proofs.Common.{ℕ, List, [], ◌∷◌, ◌++◌}
use Rattle.html_page.proofs.Among.{Each, each_left, each_right}
use Rattle.html_page.proofs.Apart.{Distinct}
use Rattle.description.specs.Content.{LevelSaid, level, GroupsSaid, no_groups, groups, GroupSaid, group, CommandsSaid, no_commands, commands, CommandSaid, command}
use Rattle.description_laws.specs.HtmlPages.{command_names, commands_names, group_names, groups_names, level_names}

-- ---- the names of the commands of one level

abbrev pub own_name : CommandSaid → List ℕ
own_name (command called help l) = called.name

abbrev pub names_in : CommandsSaid → List (List ℕ)
names_in no_commands = []
names_in (commands m ms) = own_name m ∷ names_in ms

abbrev pub group_own : GroupSaid → List (List ℕ)
group_own (group title os cs ps ms) = names_in ms

abbrev pub groups_own : GroupsSaid → List (List ℕ)
groups_own no_groups = []
groups_own (groups g gs) = group_own g ++ groups_own gs

abbrev pub level_own : LevelSaid → List (List ℕ)
level_own (level t r os cs gs ps ms) = groups_own gs ++ names_in ms

-- ---- on a level and on each below it

module _ (W : List ℕ → Type 0) where
  abbrev mutual
    pub TellsApart : LevelSaid → Type 0
    TellsApart (level t r os cs gs ps ms) = Distinct (groups_own gs ++ names_in ms) × GroupsTell gs × CommandsTell ms

    pub GroupsTell : GroupsSaid → Type 0
    GroupsTell no_groups = Unit {0}
    GroupsTell (groups g gs) = GroupTells g × GroupsTell gs

    pub GroupTells : GroupSaid → Type 0
    GroupTells (group title os cs ps ms) = CommandsTell ms

    pub CommandsTell : CommandsSaid → Type 0
    CommandsTell no_commands = Unit {0}
    CommandsTell (commands m ms) = CommandTells m × CommandsTell ms

    pub CommandTells : CommandSaid → Type 0
    CommandTells (command called h l) = W called.name × TellsApart l

-- what holds of a name of which something else holds too
module _ (W T V : List ℕ → Type 0) (both : (name : List ℕ) → W name → T name → V name) where
  mutual
    pub level_with : (l : LevelSaid) → TellsApart W l → Each T (level_names l) → TellsApart V l
    level_with (level t r os cs gs ps ms) h k = (h.0, groups_with gs h.1 (each_left T (groups_names gs) (commands_names ms) k), commands_with ms h.2 (each_right T (groups_names gs) (commands_names ms) k))

    groups_with : (gs : GroupsSaid) → GroupsTell W gs → Each T (groups_names gs) → GroupsTell V gs
    groups_with no_groups h k = tt
    groups_with (groups g gs) h k = (group_with g h.0 (each_left T (group_names g) (groups_names gs) k), groups_with gs h.1 (each_right T (group_names g) (groups_names gs) k))

    group_with : (g : GroupSaid) → GroupTells W g → Each T (group_names g) → GroupTells V g
    group_with (group title os cs ps ms) h k = commands_with ms h k

    commands_with : (ms : CommandsSaid) → CommandsTell W ms → Each T (commands_names ms) → CommandsTell V ms
    commands_with no_commands h k = tt
    commands_with (commands m ms) h k = (command_with m h.0 (each_left T (command_names m) (commands_names ms) k), commands_with ms h.1 (each_right T (command_names m) (commands_names ms) k))

    command_with : (m : CommandSaid) → CommandTells W m → Each T (command_names m) → CommandTells V m
    command_with (command called help l) h k = (both called.name h.0 k.0, level_with l h.1 k.1)
