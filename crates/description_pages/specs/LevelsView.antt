-- What the page of a level says, as a value.
use Rattle.std.specs.Prelude.{map, option_map}
use Rattle.page_model.specs.View.{block_of, form_of}
use Rattle.description.specs.View.{level_said, opt_said}
use Rattle.description_pages.specs.Levels.{PageSaid, SubjectSaid}
use Rattle.description_pages.specs.Sections.{section_of}
use Rattle.description_pages.specs.declared.levels.LevelPage.{LevelPage}
use Rattle.description_pages.specs.declared.levels.LevelSubject.{LevelSubject}

abbrev pub subject_of : {C : Type 0} → LevelSubject C → SubjectSaid
subject_of subject = record {
  names = map (λ name. name.now) subject.names.now;
  help = option_map (λ text. text.now) subject.help;
  help_options = map opt_said subject.help_options.now;
  level = level_said subject.level.now;
}

abbrev pub level_page_of : {A : Type 0} → LevelPage A → PageSaid
level_page_of page = record {
  title = page.title.now;
  about = map block_of page.about.items;
  usage = map form_of page.usage.items;
  header = map block_of page.header.items;
  sections = map section_of page.sections.items;
  see_also = map block_of page.see_also.items;
  references = map (λ name. name.now) page.references.items;
}
