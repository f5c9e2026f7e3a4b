-- What a macro of roff may read a second time, since it then reads the same. Such macros read the words of the title
-- line of a manual page, and its headings.
use Rattle.std.specs.Prelude.{◌≡◌, ℕ, List, [], ◌++◌, flat_map, true, Option, Some, None}
use Rattle.std.specs.List.{list_all}
use Rattle.toml.specs.Data.{Members}
use Rattle.description.specs.Content.{LevelSaid, level, GroupsSaid, no_groups, groups, GroupSaid, group, CommandsSaid, no_commands, commands, CommandSaid, command, DescriptionSaid}
use Rattle.description_toml.specs.Described.{described}
use Rattle.description_toml.specs.Described.Texts.{is_read_once}
use Rattle.description_laws.specs.Plain.{each_word}

abbrev pub given : Option (List ℕ) → List ℕ
given None = []
given (Some text) = text

-- the words of the title line
abbrev pub title_line : DescriptionSaid → List ℕ
title_line d = d.name ++ (d.section ++ (given d.date ++ (given d.vendor ++ given d.title)))

-- ---- what headings are made of: the titles of groups and topics, and the names of commands, with their other names

abbrev mutual
  pub level_headings : LevelSaid → List ℕ
  level_headings (level t r os cs gs ps ms) = flat_map (λ topic. topic.title) t.topics ++ (groups_headings gs ++ commands_headings ms)

  pub groups_headings : GroupsSaid → List ℕ
  groups_headings no_groups = []
  groups_headings (groups g gs) = group_headings g ++ groups_headings gs

  pub group_headings : GroupSaid → List ℕ
  group_headings (group title os cs ps ms) = title ++ commands_headings ms

  pub commands_headings : CommandsSaid → List ℕ
  commands_headings no_commands = []
  commands_headings (commands m ms) = command_headings m ++ commands_headings ms

  pub command_headings : CommandSaid → List ℕ
  command_headings (command names help l) = names.name ++ (flat_map (λ name. name) names.aliases ++ level_headings l)

-- ---- law

-- of a description that a TOML text gives
pub record IsReadOnce (d : DescriptionSaid) : Type 0 where
  -- no word of the title line holds a backslash or a double quote
  pub title_line : list_all is_read_once (title_line d) ≡ true
  -- no title of a group or of a topic and no name of a command
  pub headings : list_all is_read_once (level_headings d.level) ≡ true
  -- no fixed word
  pub words : list_all is_read_once (flat_map (λ word. word) (each_word d.words)) ≡ true

abbrev pub TitlesAreReadOnce : Type 0
TitlesAreReadOnce = (ms : Members) (d : DescriptionSaid) → described ms ≡ Some d → IsReadOnce d
