-- What a level shows in all media: the lists of its entries.
use Rattle.std.specs.Prelude.{◌≡◌, List, [], ◌∷◌, None, flat_map, map}
use Rattle.page_model.specs.Content.{EntrySaid, PartSaid, heading, usage, block, entries}
use Rattle.description_pages.specs.Chapters.{chapter_from, parts_of}
use Rattle.description_pages.specs.Consoles.{console_of}
use Rattle.description_pages.specs.Levels.{PageSaid, SubjectSaid, page_of}
use Rattle.description_pages.specs.Manuals.{manual_below, manual_of}
use Rattle.description_pages.specs.Markdowns.{markdown_below, markdown_of}
use Rattle.description_pages.specs.Sections.{BodySaid, listed, told}
use Rattle.description_pages.specs.declared.levels.Depth.{Depth}
use Rattle.description_pages.specs.declared.levels.Depth.TheVariants.{Alone}
use Rattle.description_pages.specs.declared.sections.Detail.{Detail}
use Rattle.description_pages.specs.declared.sections.Detail.TheVariants.{Full}
use Rattle.description.specs.Words.{WordsSaid}

-- an entry, whatever it leads to: that of a command leads to a page or to a heading
abbrev pub unled : EntrySaid → EntrySaid
unled entry = record entry { target = None }

abbrev pub list_in : PartSaid → List (List EntrySaid)
list_in (heading rank title) = []
list_in (usage forms) = []
list_in (block shown) = []
list_in (entries list) = map unled list ∷ []

-- the lists of a page, in order
abbrev pub lists_in : List PartSaid → List (List EntrySaid)
lists_in = flat_map list_in

abbrev pub list_of : BodySaid → List (List EntrySaid)
list_of (listed list) = map unled list ∷ []
list_of (told blocks) = []

-- those of a level, before a medium arranges them
abbrev pub lists_of : PageSaid → List (List EntrySaid)
lists_of said = flat_map (λ section. list_of section.body) said.sections

-- ---- law

-- Each medium shows the lists of a level, and no others, in their order: alone, after another level, and in a chapter.
-- Where entries lead is not compared.
abbrev pub MediaListTheSame : Type 0
MediaListTheSame =
    (fixed : WordsSaid) (subject : SubjectSaid)
    → (lists_in (manual_of fixed subject) ≡ lists_of (page_of fixed Full Alone subject))
    × (lists_in (manual_below fixed subject) ≡ lists_of (page_of fixed Full Alone subject))
    × ((depth : Depth) → lists_in (markdown_of fixed depth subject) ≡ lists_of (page_of fixed Full Alone subject))
    × (lists_in (markdown_below fixed subject) ≡ lists_of (page_of fixed Full Alone subject))
    × (lists_in (parts_of (chapter_from fixed subject)) ≡ lists_of (page_of fixed Full Alone subject))
    × ((detail : Detail) → lists_in (console_of fixed detail subject) ≡ lists_of (page_of fixed detail Alone subject))
