-- What a written page promises: read as a manual page, it says what was said, as far as a manual page keeps it.
use Rattle.std.specs.Prelude.{◌≡◌, ◌&&◌, ℕ, true, List, Option, Some}
use Rattle.std.specs.List.{list_all}
use Rattle.page_model.specs.Content.{PartSaid}
use Rattle.page_model.specs.Permitted.{are_permitted, is_permitted_part}
use Rattle.man_page.specs.Sheet.{Sheet}
use Rattle.man_page.specs.Kept.{TitleSaid, title_words}
use Rattle.man_page.specs.Reader.{read}
use Rattle.page_model.specs.Faults.{fault_unless}
use Rattle.page_model.specs.declared.fault.PageFault.{PageFault}

-- each text of a page is permitted, and each word of its title line
abbrev pub ArePermitted : TitleSaid → List PartSaid → Type 0
ArePermitted title parts =
    (list_all are_permitted (title_words title) ≡ true) × (list_all is_permitted_part parts ≡ true)

-- a text that is the whole of a manual page which says this
abbrev pub ReadsAs : List ℕ → Sheet → Type 0
ReadsAs bytes sheet = read bytes ≡ Some sheet

-- a page with a text that is not permitted has a fault
abbrev pub page_fault : TitleSaid → List PartSaid → Option PageFault
page_fault title parts = fault_unless (list_all are_permitted (title_words title) && list_all is_permitted_part parts)
