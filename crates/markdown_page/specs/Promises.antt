-- What a written page promises: read as CommonMark, it says what was said, as far as markdown keeps it.
use Rattle.std.specs.Prelude.{◌≡◌, ◌&&◌, ℕ, true, List, Option, Some}
use Rattle.std.specs.List.{list_all}
use Rattle.page_model.specs.Content.{PartSaid}
use Rattle.page_model.specs.Permitted.{are_permitted, is_permitted_part}
use Rattle.markdown_page.specs.Sheet.{Said}
use Rattle.markdown_page.specs.Reader.{read}
use Rattle.page_model.specs.Faults.{fault_unless}
use Rattle.page_model.specs.declared.fault.PageFault.{PageFault}

-- the title of a page is permitted, and each text
abbrev pub ArePermitted : List ℕ → List PartSaid → Type 0
ArePermitted title parts = (are_permitted title ≡ true) × (list_all is_permitted_part parts ≡ true)

-- a text that is the whole of a page which says this
abbrev pub ReadsAs : List ℕ → List Said → Type 0
ReadsAs bytes said = read bytes ≡ Some said

-- a page with a text that is not permitted has a fault
abbrev pub page_fault : List ℕ → List PartSaid → Option PageFault
page_fault title parts = fault_unless (are_permitted title && list_all is_permitted_part parts)
