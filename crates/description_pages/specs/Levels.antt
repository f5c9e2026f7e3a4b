-- The page of a level of a command line: its texts, its usage, and the sections below them, before a medium arranges
-- them.
use Rattle.std.specs.Prelude.{ℕ, ◌-◌, List, [], ◌∷◌, ◌++◌, codes, length, take, nat_lt, Option, if◌then◌else◌}
use Rattle.page_model.specs.Content.{BlockSaid, FormSaid}
use Rattle.description.specs.Content.{OptSaid, TextsSaid, LevelSaid, level, GroupsSaid, no_groups, groups, GroupSaid, group, CommandsSaid, no_commands, commands, CommandSaid, command}
use Rattle.description_pages.specs.Sections.{SectionSaid, given_blocks, groups_of, joined_names, list_sections, page_name, text_section}
use Rattle.description_pages.specs.Topics.{merged, own_sections, placed_blocks}
use Rattle.description_usage.specs.Forms.{usage_forms}
use Rattle.description.specs.Words.{WordsSaid}
use Rattle.description_pages.specs.declared.levels.Depth.{Depth}
use Rattle.description_pages.specs.declared.levels.Depth.TheVariants.{Alone, Deep}
use Rattle.description_pages.specs.declared.sections.Detail.{Detail}
use Rattle.description_pages.specs.declared.topics.Place.TheVariants.{Notes, References}

-- a level, by what its pages say: the names that lead there, what the level above
-- says of it, and the options that ask for help
pub record SubjectSaid : Type 0 where
  pub names : List (List ℕ)
  pub help : Option (List ℕ)
  pub help_options : List OptSaid
  pub level : LevelSaid

-- ---- the names of the pages above and below

abbrev pub page_above : (names : List (List ℕ)) → List (List ℕ)
page_above names = if nat_lt 1 (length names) then page_name (take (length names - 1) names) ∷ [] else []

-- those of hidden commands are left out
abbrev pub page_below : (names : List (List ℕ)) → CommandSaid → List (List ℕ)
page_below names (command called help below) =
    if called.hidden then [] else page_name (names ++ called.name ∷ []) ∷ []

abbrev pub pages_below : (names : List (List ℕ)) → CommandsSaid → List (List ℕ)
pages_below names no_commands = []
pages_below names (commands first others) = page_below names first ++ pages_below names others

abbrev pub commands_in : GroupSaid → CommandsSaid
commands_in (group title options choices values below) = below

abbrev pub grouped_below : (names : List (List ℕ)) → GroupsSaid → List (List ℕ)
grouped_below names no_groups = []
grouped_below names (groups first others) = pages_below names (commands_in first) ++ grouped_below names others

abbrev pub commands_of : LevelSaid → CommandsSaid
commands_of (level texts required options choices below values subcommands) = subcommands

-- the commands of groups, and the others
abbrev pub lower_pages : (names : List (List ℕ)) → LevelSaid → List (List ℕ)
lower_pages names l = grouped_below names (groups_of l) ++ pages_below names (commands_of l)

-- the page above and those below, unless what is below stands on the page itself
abbrev pub neighbours : Depth → (names : List (List ℕ)) → LevelSaid → List (List ℕ)
neighbours Alone names l = page_above names ++ lower_pages names l
neighbours Deep names l = page_above names

-- ---- the page

pub record PageSaid : Type 0 where
  -- the names, with a blank between two
  pub title : List ℕ
  pub about : List BlockSaid
  pub usage : List FormSaid
  pub header : List BlockSaid
  -- lists, topics and notes
  pub sections : List SectionSaid
  -- what stands above the references, and the names of the pages that they lead to
  pub see_also : List BlockSaid
  pub references : List (List ℕ)

abbrev pub texts_of : LevelSaid → TextsSaid
texts_of (level texts required options choices below values subcommands) = texts

-- the topics that have the title of the notes, and the footer
abbrev pub notes_of : WordsSaid → Detail → TextsSaid → List SectionSaid
notes_of fixed detail texts =
    text_section fixed.notes (merged (placed_blocks fixed detail Notes texts.topics ++ given_blocks detail texts.footer))

abbrev pub sections_of : WordsSaid → Detail → Depth → (names : List (List ℕ)) → (help_options : List OptSaid) → LevelSaid → List SectionSaid
sections_of fixed detail depth names help_options l =
    list_sections fixed detail depth names help_options l
    ++ (own_sections fixed detail (texts_of l).topics ++ notes_of fixed detail (texts_of l))

abbrev pub page_of : WordsSaid → Detail → Depth → SubjectSaid → PageSaid
page_of fixed detail depth subject = record {
  title = joined_names (codes " ") subject.names;
  about = given_blocks detail (texts_of subject.level).about;
  usage = usage_forms fixed (joined_names (codes " ") subject.names) subject.level;
  header = given_blocks detail (texts_of subject.level).header;
  sections = sections_of fixed detail depth subject.names subject.help_options subject.level;
  see_also = merged (placed_blocks fixed detail References (texts_of subject.level).topics);
  references = neighbours depth subject.names subject.level;
}
