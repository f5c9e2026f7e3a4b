-- When a page is not written.
use Rattle.std.specs.Prelude.{◌&&◌, ℕ, List, Option}
use Rattle.std.specs.List.{list_all}
use Rattle.page_model.specs.Content.{FormSaid, PartSaid}
use Rattle.page_model.specs.Permitted.{are_permitted, is_permitted_form, is_permitted_part}
use Rattle.page_model.specs.Faults.{fault_unless}
use Rattle.page_model.specs.declared.fault.PageFault.{PageFault}

-- a page, or a usage, with a text that is not permitted has a fault
abbrev pub page_fault : List ℕ → List PartSaid → Option PageFault
page_fault word parts = fault_unless (are_permitted word && list_all is_permitted_part parts)

abbrev pub usage_fault : List FormSaid → Option PageFault
usage_fault forms = fault_unless (list_all is_permitted_form forms)
