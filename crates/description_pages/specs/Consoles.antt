-- The page of a level for a console, as the parts of a page, and its usage alone. There
-- are no pages beside it, and so no references to them.
use Rattle.std.specs.Prelude.{List, codes}
use Rattle.page_model.specs.Content.{FormSaid, PartSaid}
use Rattle.page_model.specs.declared.parts.Rank.TheVariants.{Section}
use Rattle.description_pages.specs.Arranged.{in_order}
use Rattle.description_usage.specs.Forms.{usage_forms}
use Rattle.description_pages.specs.Levels.{SubjectSaid, page_of}
use Rattle.description_pages.specs.Sections.{joined_names}
use Rattle.description_pages.specs.declared.levels.Depth.TheVariants.{Alone}
use Rattle.description_pages.specs.declared.sections.Detail.{Detail}
use Rattle.description.specs.Words.{WordsSaid}

abbrev pub console_of : WordsSaid → Detail → SubjectSaid → List PartSaid
console_of fixed detail subject = in_order Section fixed (page_of fixed detail Alone subject)

-- the names that lead there, with a blank between two, and what follows them
abbrev pub usage_of : WordsSaid → SubjectSaid → List FormSaid
usage_of fixed subject = usage_forms fixed (joined_names (codes " ") subject.names) subject.level
