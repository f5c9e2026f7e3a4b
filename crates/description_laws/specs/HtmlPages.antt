-- The pages in HTML of the levels of a description: each link leads somewhere, and no two elements have one id.
use Rattle.std.specs.Prelude.{◌≡◌, ℕ, ◌<◌, ◌^◌, List, [], ◌∷◌, ◌++◌, length, ◌||◌, true, Some}
use Rattle.std.specs.List.{list_all}
use Rattle.std.specs.Str.{is_utf8}
use Rattle.toml.specs.Data.{Members}
use Rattle.web_page.specs.Tree.{Nodes}
use Rattle.html_page.specs.Laws.{addresses_in, are_distinct, ids_in, is_among, is_target_of, targets_in}
use Rattle.html_page.specs.Promises.{page_tree}
use Rattle.description.specs.Content.{DescriptionSaid, LevelSaid, level, GroupsSaid, no_groups, groups, GroupSaid, group, CommandsSaid, no_commands, commands, CommandSaid, command}
use Rattle.description_toml.specs.Described.{described}
use Rattle.description_pages.specs.Chapters.{chapter_from}
use Rattle.description_pages.specs.Levels.{SubjectSaid}
use Rattle.command_pages.specs.Html.{frame_said}
use Rattle.command_pages.specs.Pages.{TitleGiven, level_at}

-- the tree of the page of a level, with all levels below it
abbrev pub page_of_level : DescriptionSaid → TitleGiven → SubjectSaid → Nodes
page_of_level d given s = page_tree (frame_said d given) (chapter_from d.words s)

-- ---- links

-- the target of each link is the id of an element of the same page, or an address that a text of a level says
abbrev pub HtmlLinksHaveTargets : Type 0
HtmlLinksHaveTargets =
    (d : DescriptionSaid) (given : TitleGiven) (s : SubjectSaid)
    → list_all (λ target. is_target_of (ids_in (page_of_level d given s)) target || is_among (addresses_in (chapter_from d.words s)) target) (targets_in (page_of_level d given s)) ≡ true

-- ---- ids

abbrev mutual
  -- the names of the commands of a level, and of those below them, at any depth
  pub level_names : LevelSaid → List (List ℕ)
  level_names (level t r os cs gs ps ms) = groups_names gs ++ commands_names ms

  pub groups_names : GroupsSaid → List (List ℕ)
  groups_names no_groups = []
  groups_names (groups g gs) = group_names g ++ groups_names gs

  pub group_names : GroupSaid → List (List ℕ)
  group_names (group title os cs ps ms) = commands_names ms

  pub commands_names : CommandsSaid → List (List ℕ)
  commands_names no_commands = []
  commands_names (commands m ms) = command_names m ++ commands_names ms

  pub command_names : CommandSaid → List (List ℕ)
  command_names (command called help l) = called.name ∷ level_names l

-- the name of the application, and those of its commands
abbrev pub all_names : DescriptionSaid → List (List ℕ)
all_names d = d.name ∷ level_names d.level

-- No two elements of the page of a level of a description that a TOML text gives have one id, where there are fewer
-- than 2 ^ 64 ids: neither on that of the application nor on that of a command. The names are texts: in other bytes a
-- blank could stand inside a character, and `a b` could be one name or two.
abbrev pub HtmlIdsAreDistinct : Type 0
HtmlIdsAreDistinct =
    (ms : Members) (d : DescriptionSaid) (given : TitleGiven) (words : List (List ℕ)) (s : SubjectSaid) → described ms ≡ Some d → list_all is_utf8 (all_names d) ≡ true → level_at words d ≡ Some s
    → length (ids_in (page_of_level d given s)) < 2 ^ 64 → are_distinct (ids_in (page_of_level d given s)) ≡ true
