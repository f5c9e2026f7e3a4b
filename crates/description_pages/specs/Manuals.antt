-- The manual page of a level, as the parts of a page in the order of manual pages.
use Rattle.std.specs.Prelude.{ℕ, List, [], ◌∷◌, ◌++◌, codes, map, if◌then◌else◌}
use Rattle.page_model.specs.Content.{words, Line, PartSaid, heading, block, paragraph}
use Rattle.page_model.specs.declared.parts.Rank.{Rank}
use Rattle.page_model.specs.declared.parts.Rank.TheVariants.{Page, Section, Subsection}
use Rattle.description_pages.specs.Arranged.{heading_in, titled, titled_parts, usage_parts}
use Rattle.description_pages.specs.Levels.{PageSaid, SubjectSaid, page_of}
use Rattle.description_pages.specs.References.{with_references}
use Rattle.description_pages.specs.Sections.{page_name}
use Rattle.description_pages.specs.Summaries.{is_summary, summary_of}
use Rattle.description_pages.specs.Topics.{merged}
use Rattle.description_pages.specs.declared.arranged.Case.TheVariants.{Capitals}
use Rattle.description_pages.specs.declared.levels.Depth.TheVariants.{Alone}
use Rattle.description_pages.specs.declared.sections.Detail.TheVariants.{Full}
use Rattle.description.specs.Words.{WordsSaid}

-- ---- NAME

-- the name, a hyphen between blanks, and the summary
abbrev pub name_line : (name : List ℕ) → (summary : Line) → Line
name_line name [] = words name ∷ []
name_line name (piece ∷ line) = words name ∷ words (codes " - ") ∷ piece ∷ line

abbrev pub name_parts : WordsSaid → SubjectSaid → List PartSaid
name_parts fixed subject =
    heading_in Capitals Section fixed.name
    ∷ block (paragraph (name_line (page_name subject.names) (summary_of subject) ∷ [])) ∷ []

-- what NAME says is not said again
abbrev pub without_summary : Line → PageSaid → PageSaid
without_summary line said = record said { about = if is_summary line said.about then [] else said.about }

-- ---- all else: SYNOPSIS, DESCRIPTION, the sections and SEE ALSO, with titles in capitals

abbrev pub manual_order : Rank → WordsSaid → PageSaid → List PartSaid
manual_order rank fixed said =
    titled Capitals rank fixed.synopsis (usage_parts said.usage)
    ++ (titled Capitals rank fixed.description (map block (merged (said.about ++ said.header)))
    ++ titled_parts Capitals rank fixed said.sections said.see_also)

-- ---- the pages

abbrev pub manual_of : WordsSaid → SubjectSaid → List PartSaid
manual_of fixed subject =
    name_parts fixed subject
    ++ manual_order Section fixed (without_summary (summary_of subject) (with_references (page_of fixed Full Alone subject)))

-- A level that follows another on its page: its names, and all else one rank lower, without NAME and references. Of SEE
-- ALSO the topics stay that have its title.
abbrev pub manual_below : WordsSaid → SubjectSaid → List PartSaid
manual_below fixed subject =
    heading Page (page_of fixed Full Alone subject).title ∷ manual_order Subsection fixed (page_of fixed Full Alone subject)
