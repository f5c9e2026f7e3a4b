-- A level with all levels below it that are not hidden, where they stand on one page.
use Rattle.std.specs.Prelude.{◌≡◌, ◌-◌, ℕ, List, [], ◌∷◌, ◌++◌, get_or, length, map, if◌then◌else◌}
use Rattle.page_model.specs.Content.{PartSaid, ChapterSaid, chapter, ChaptersSaid, no_chapters, chapters}
use Rattle.page_model.specs.View.{chapters_in}
use Rattle.page_model.specs.declared.parts.Rank.TheVariants.{Section}
use Rattle.description.specs.Content.{LevelSaid, level, GroupsSaid, no_groups, groups, GroupSaid, group, CommandsSaid, no_commands, commands, CommandSaid, command}
use Rattle.description.specs.Words.{WordsSaid}
use Rattle.description_pages.specs.Arranged.{in_order}
use Rattle.description_pages.specs.Levels.{PageSaid, SubjectSaid, page_of}
use Rattle.description_pages.specs.Subjects.{below, in_short, is_shown, subjects_after}
use Rattle.description_pages.specs.declared.levels.Depth.TheVariants.{Deep}
use Rattle.description_pages.specs.declared.sections.Detail.TheVariants.{Full}

abbrev pub last_name : List (List ℕ) → List ℕ
last_name names = get_or names (length names - 1) []

-- what follows `about`; there are no pages beside this one, and so no references to them
abbrev pub parts_after : WordsSaid → PageSaid → List PartSaid
parts_after fixed said = in_order Section fixed (record said { about = [] })

-- a level, with the chapters of those below it
abbrev pub chapter_with : WordsSaid → SubjectSaid → List ChapterSaid → ChapterSaid
chapter_with fixed s lower =
    chapter (page_of fixed Full Deep s).title (last_name s.names) (page_of fixed Full Deep s).about
    (parts_after fixed (page_of fixed Full Deep s)) (chapters_in lower)

abbrev mutual
  -- the commands of a level that are not hidden, those of its groups first, each with those below it
  pub chapters_on : WordsSaid → SubjectSaid → LevelSaid → List ChapterSaid
  chapters_on fixed s (level texts required options choices gs values subcommands) =
      group_chapters fixed s gs ++ command_chapters fixed s subcommands

  pub group_chapters : WordsSaid → SubjectSaid → GroupsSaid → List ChapterSaid
  group_chapters fixed s no_groups = []
  group_chapters fixed s (groups first others) = chapters_in_group fixed s first ++ group_chapters fixed s others

  pub chapters_in_group : WordsSaid → SubjectSaid → GroupSaid → List ChapterSaid
  chapters_in_group fixed s (group title options choices values subcommands) = command_chapters fixed s subcommands

  pub command_chapters : WordsSaid → SubjectSaid → CommandsSaid → List ChapterSaid
  command_chapters fixed s no_commands = []
  command_chapters fixed s (commands first others) = chapter_if_shown fixed s first ++ command_chapters fixed s others

  pub chapter_if_shown : WordsSaid → SubjectSaid → CommandSaid → List ChapterSaid
  chapter_if_shown fixed s (command called help l) =
      if is_shown (command called help l)
      then chapter_with fixed (below s (command called help l)) (chapters_on fixed (below s (command called help l)) l) ∷ []
      else []

-- those below the first say by their names alone which options ask for help
abbrev pub chapter_from : WordsSaid → SubjectSaid → ChapterSaid
chapter_from fixed s = chapter_with fixed s (chapters_on fixed (in_short s) s.level)

-- what follows `about`
abbrev pub parts_of : ChapterSaid → List PartSaid
parts_of (chapter title name about parts lower) = parts

-- ---- law

abbrev mutual
  -- a chapter and those below it, each before those below it, and as if there were none below it
  pub each_alone : ChapterSaid → List ChapterSaid
  each_alone (chapter title name about parts lower) = chapter title name about parts no_chapters ∷ all_alone lower

  pub all_alone : ChaptersSaid → List ChapterSaid
  all_alone no_chapters = []
  all_alone (chapters first others) = each_alone first ++ all_alone others

-- each level that is not hidden has its chapter, and nothing else has one
abbrev pub EachLevelHasItsChapter : Type 0
EachLevelHasItsChapter =
    (fixed : WordsSaid) (s : SubjectSaid)
    → each_alone (chapter_from fixed s) ≡ map (λ t. chapter_with fixed t []) (s ∷ subjects_after s)
