-- The topics of a level: each under its title, or in front of what has its title.
use Rattle.std.specs.Prelude.{ℕ, List, [], ◌∷◌, ◌++◌, flat_map, fold, Bool, true, false, if◌then◌else◌}
use Rattle.std.specs.Str.{bytes_eq}
use Rattle.std.specs.StrCase.Upper.{str_to_uppercase}
use Rattle.page_model.specs.Content.{BlockSaid, paragraph, code, bullets}
use Rattle.description.specs.Content.{TopicSaid}
use Rattle.description_pages.specs.Sections.{SectionSaid, shown_blocks, text_section, without_colon}
use Rattle.description_texts.specs.Texts.{text_blocks}
use Rattle.description.specs.Words.{WordsSaid}
use Rattle.description_pages.specs.declared.sections.Detail.{Detail}
use Rattle.description_pages.specs.declared.topics.Place.{Place}
use Rattle.description_pages.specs.declared.topics.Place.TheVariants.{Own, Notes, References}

-- ---- blocks after one another

-- a list after a list continues it
abbrev pub together : BlockSaid → BlockSaid → List BlockSaid
together (bullets items) (bullets more) = bullets (items ++ more) ∷ []
together (bullets items) (paragraph lines) = bullets items ∷ paragraph lines ∷ []
together (bullets items) (code lines) = bullets items ∷ code lines ∷ []
together (paragraph lines) block = paragraph lines ∷ block ∷ []
together (code lines) block = code lines ∷ block ∷ []

abbrev pub and_block : List BlockSaid → BlockSaid → List BlockSaid
and_block [] block = block ∷ []
and_block (last ∷ []) block = together last block
and_block (first ∷ second ∷ blocks) block = first ∷ and_block (second ∷ blocks) block

-- blocks, with one list for those that follow one another: a medium has no mark between two
abbrev pub merged : List BlockSaid → List BlockSaid
merged blocks = fold and_block [] blocks

-- ---- where a topic stands

-- two titles that are the same except for case
abbrev pub same_title : List ℕ → List ℕ → Bool
same_title title other = bytes_eq (str_to_uppercase (without_colon title)) (str_to_uppercase (without_colon other))

abbrev pub place_of : WordsSaid → TopicSaid → Place
place_of fixed topic =
    if same_title topic.title fixed.notes then Notes
    else if same_title topic.title fixed.see_also then References
    else Own

abbrev pub is_place : Place → Place → Bool
is_place Own Own = true
is_place Own Notes = false
is_place Own References = false
is_place Notes Own = false
is_place Notes Notes = true
is_place Notes References = false
is_place References Own = false
is_place References Notes = false
is_place References References = true

-- ---- sections

abbrev pub topic_blocks : Detail → TopicSaid → List BlockSaid
topic_blocks detail topic = shown_blocks detail (text_blocks topic.text)

abbrev pub own_section : WordsSaid → Detail → TopicSaid → List SectionSaid
own_section fixed detail topic =
    if is_place Own (place_of fixed topic) then text_section (without_colon topic.title) (topic_blocks detail topic) else []

abbrev pub own_sections : WordsSaid → Detail → List TopicSaid → List SectionSaid
own_sections fixed detail topics = flat_map (own_section fixed detail) topics

-- the blocks of the topics of a place
abbrev pub placed_of : WordsSaid → Detail → Place → TopicSaid → List BlockSaid
placed_of fixed detail place topic = if is_place place (place_of fixed topic) then topic_blocks detail topic else []

abbrev pub placed_blocks : WordsSaid → Detail → Place → List TopicSaid → List BlockSaid
placed_blocks fixed detail place topics = flat_map (placed_of fixed detail place) topics
