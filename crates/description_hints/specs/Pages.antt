-- The levels that have pages of their own, each with the way to it, and the names of their files.
use Rattle.std.specs.Prelude.{ℕ, ◌+◌, List, [], ◌∷◌, ◌++◌, codes, if◌then◌else◌}
use Rattle.description.specs.Content.{LevelSaid, level, GroupsSaid, no_groups, groups, GroupSaid, group, CommandsSaid, no_commands, commands, CommandSaid, command, DescriptionSaid}
use Rattle.description_hints.specs.Content.{Path, PageSiteSaid}
use Rattle.description_hints.specs.Sites.{table_in}

abbrev pub page : Path → (name : List ℕ) → PageSiteSaid
page path name = record { path = path; name = name }

-- the name of the page of a command, after that of the level that has it
abbrev pub page_below : (above name : List ℕ) → List ℕ
page_below above name = above ++ codes "-" ++ name

abbrev mutual
  -- the levels below one that are not hidden and stand below none that is, in the
  -- order of the records; `above` is the name of its page
  pub pages_below : Path → (above : List ℕ) → LevelSaid → List PageSiteSaid
  pages_below path above (level texts required options choices gs positionals subcommands) =
      groups_pages path above 0 gs ++ commands_pages path above 0 subcommands

  pub groups_pages : Path → (above : List ℕ) → ℕ → GroupsSaid → List PageSiteSaid
  groups_pages path above n no_groups = []
  groups_pages path above n (groups first others) =
      group_pages (table_in path (codes "group") n) above first ++ groups_pages path above (n + 1) others

  pub group_pages : Path → (above : List ℕ) → GroupSaid → List PageSiteSaid
  group_pages path above (group title options choices positionals subcommands) = commands_pages path above 0 subcommands

  pub commands_pages : Path → (above : List ℕ) → ℕ → CommandsSaid → List PageSiteSaid
  commands_pages path above n no_commands = []
  commands_pages path above n (commands first others) =
      command_pages (table_in path (codes "command") n) above first ++ commands_pages path above (n + 1) others

  pub command_pages : Path → (above : List ℕ) → CommandSaid → List PageSiteSaid
  command_pages path above (command names help l) =
      if names.hidden then [] else page path (page_below above names.name) ∷ pages_below path (page_below above names.name) l

-- the application, and the levels below it
abbrev pub pages : DescriptionSaid → List PageSiteSaid
pages d = page [] d.name ∷ pages_below [] d.name d.level

-- ---- names of files

-- that of a manual page, of its section
abbrev pub manual_name : (section name : List ℕ) → List ℕ
manual_name section name = name ++ codes "." ++ section

abbrev pub markdown_name : (name : List ℕ) → List ℕ
markdown_name name = name ++ codes ".md"

-- that of the page in HTML, which the application alone has
abbrev pub web_name : (name : List ℕ) → List ℕ
web_name name = name ++ codes ".html"
