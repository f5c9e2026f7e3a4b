use Rattle.description_pages.proofs.ChapterParts.{each_level_has_its_chapter}
use Rattle.description_pages.proofs.laws.each_level_has_its_chapter.Goals as goal

pub returns : goal.returns
returns c = each_level_has_its_chapter
