-- Parts of a page under titles, and those of a level in the order in which its page says them.
use Rattle.std.specs.Prelude.{ℕ, List, [], ◌∷◌, ◌++◌, flat_map, map}
use Rattle.std.specs.StrCase.Upper.{str_to_uppercase}
use Rattle.page_model.specs.Content.{BlockSaid, FormSaid, PartSaid, heading, usage, block, entries}
use Rattle.page_model.specs.declared.parts.Rank.{Rank}
use Rattle.description_pages.specs.Levels.{PageSaid}
use Rattle.description_pages.specs.Sections.{BodySaid, listed, told, SectionSaid}
use Rattle.description_pages.specs.declared.arranged.Case.{Case}
use Rattle.description_pages.specs.declared.arranged.Case.TheVariants.{Capitals, AsSaid}
use Rattle.description.specs.Words.{WordsSaid}

-- ---- titles

abbrev pub title_in : Case → (title : List ℕ) → List ℕ
title_in Capitals title = str_to_uppercase title
title_in AsSaid title = title

abbrev pub heading_in : Case → Rank → (title : List ℕ) → PartSaid
heading_in letters rank title = heading rank (title_in letters title)

-- what has nothing to show is left out with its title
abbrev pub titled : Case → Rank → (title : List ℕ) → List PartSaid → List PartSaid
titled letters rank title [] = []
titled letters rank title (part ∷ parts) = heading_in letters rank title ∷ part ∷ parts

-- ---- what stands under them

abbrev pub usage_parts : List FormSaid → List PartSaid
usage_parts [] = []
usage_parts (form ∷ forms) = usage (form ∷ forms) ∷ []

abbrev pub body_parts : BodySaid → List PartSaid
body_parts (listed list) = entries list ∷ []
body_parts (told blocks) = map block blocks

abbrev pub section_parts : Case → Rank → SectionSaid → List PartSaid
section_parts letters rank section = heading_in letters rank section.title ∷ body_parts section.body

-- the lists, the topics and the notes, and what stands with the references
abbrev pub titled_parts : Case → Rank → WordsSaid → List SectionSaid → (see_also : List BlockSaid) → List PartSaid
titled_parts letters rank fixed sections see_also =
    flat_map (section_parts letters rank) sections
    ++ titled letters rank fixed.see_also (map block see_also)

-- ---- a page in its own order, in which the usage has no title

abbrev pub in_order : Rank → WordsSaid → PageSaid → List PartSaid
in_order rank fixed said =
    map block said.about
    ++ (usage_parts said.usage
    ++ (map block said.header
    ++ titled_parts AsSaid rank fixed said.sections said.see_also))
