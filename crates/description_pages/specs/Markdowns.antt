-- The page of a level for markdown, as the parts of a page. The title of the whole stands above them.
use Rattle.std.specs.Prelude.{List, ◌∷◌}
use Rattle.page_model.specs.Content.{PartSaid, heading}
use Rattle.page_model.specs.declared.parts.Rank.TheVariants.{Page, Section, Subsection}
use Rattle.description_pages.specs.Arranged.{in_order}
use Rattle.description_pages.specs.Levels.{SubjectSaid, page_of}
use Rattle.description_pages.specs.References.{with_references}
use Rattle.description_pages.specs.declared.levels.Depth.{Depth}
use Rattle.description_pages.specs.declared.levels.Depth.TheVariants.{Deep}
use Rattle.description_pages.specs.declared.sections.Detail.TheVariants.{Full}
use Rattle.description.specs.Words.{WordsSaid}

abbrev pub markdown_of : WordsSaid → Depth → SubjectSaid → List PartSaid
markdown_of fixed depth subject = in_order Section fixed (with_references (page_of fixed Full depth subject))

-- A level that follows another on its page: its names, and all else one rank lower, without references.
abbrev pub markdown_below : WordsSaid → SubjectSaid → List PartSaid
markdown_below fixed subject =
    heading Page (page_of fixed Full Deep subject).title ∷ in_order Subsection fixed (page_of fixed Full Deep subject)
