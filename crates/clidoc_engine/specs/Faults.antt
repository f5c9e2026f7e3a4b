-- Which fault an error is, and what is said of a fault.
use Rattle.std.specs.Prelude.{⊤}
use Rattle.toml.specs.declared.de.error.Error.{Error}
use Rattle.web_page.specs.declared.errors.PageError.{PageError}
use Rattle.web_page.specs.declared.errors.PageError.TheVariants as making
use Rattle.page_model.specs.declared.fault.PageFault.{PageFault}
use Rattle.page_model.specs.declared.fault.PageFault.TheVariants as writing
use Rattle.clidoc_engine.specs.declared.places.Place.{Place}
use Rattle.clidoc_engine.specs.declared.faults.Fault.{Fault}
use Rattle.clidoc_engine.specs.declared.faults.Fault.TheVariants.{NotUtf8, NotToml, NotJson, NotDescription, NoCommand, NoPage, Read, Write, Memory}

abbrev pub fault_of_medium : PageFault → Fault
fault_of_medium (writing.Refused error) = Memory
fault_of_medium writing.Character = NoPage making.Character

abbrev pub fault_of_page : PageError → Fault
fault_of_page (making.Refused error) = Memory
fault_of_page making.Language = NoPage making.Language
fault_of_page making.Title = NoPage making.Title
fault_of_page making.Style = NoPage making.Style
fault_of_page making.Character = NoPage making.Character
fault_of_page making.Id = NoPage making.Id
fault_of_page making.Misplaced = NoPage making.Misplaced
fault_of_page making.NoInk = NoPage making.NoInk

-- where a fault says that the input is not UTF-8, this holds of its place
abbrev pub IfNotUtf8 : Fault → (Place → Type 0) → Type 0
IfNotUtf8 (NotUtf8 place) P = P place
IfNotUtf8 (NotToml place error cause) P = ⊤
IfNotUtf8 (NotJson place why) P = ⊤
IfNotUtf8 (NotDescription lines) P = ⊤
IfNotUtf8 (NoCommand name path meant) P = ⊤
IfNotUtf8 (NoPage error) P = ⊤
IfNotUtf8 Read P = ⊤
IfNotUtf8 Write P = ⊤
IfNotUtf8 Memory P = ⊤

-- where a fault says that the text is not TOML, this holds of its place and its error
abbrev pub IfNotToml : Fault → (Place → Error → Type 0) → Type 0
IfNotToml (NotToml place error cause) P = P place error
IfNotToml (NotUtf8 place) P = ⊤
IfNotToml (NotJson place why) P = ⊤
IfNotToml (NotDescription lines) P = ⊤
IfNotToml (NoCommand name path meant) P = ⊤
IfNotToml (NoPage error) P = ⊤
IfNotToml Read P = ⊤
IfNotToml Write P = ⊤
IfNotToml Memory P = ⊤

-- where a fault says that the text gives no table as JSON, this holds of its place
abbrev pub IfNotJson : Fault → (Place → Type 0) → Type 0
IfNotJson (NotJson place why) P = P place
IfNotJson (NotUtf8 place) P = ⊤
IfNotJson (NotToml place error cause) P = ⊤
IfNotJson (NotDescription lines) P = ⊤
IfNotJson (NoCommand name path meant) P = ⊤
IfNotJson (NoPage error) P = ⊤
IfNotJson Read P = ⊤
IfNotJson Write P = ⊤
IfNotJson Memory P = ⊤

-- where a fault says that the table is not a description, this holds
abbrev pub IfNotDescription : Fault → Type 0 → Type 0
IfNotDescription (NotDescription lines) P = P
IfNotDescription (NotUtf8 place) P = ⊤
IfNotDescription (NotToml place error cause) P = ⊤
IfNotDescription (NotJson place why) P = ⊤
IfNotDescription (NoCommand name path meant) P = ⊤
IfNotDescription (NoPage error) P = ⊤
IfNotDescription Read P = ⊤
IfNotDescription Write P = ⊤
IfNotDescription Memory P = ⊤

-- where a fault says that there is no such command, this holds
abbrev pub IfNoCommand : Fault → Type 0 → Type 0
IfNoCommand (NoCommand name path meant) P = P
IfNoCommand (NotDescription lines) P = ⊤
IfNoCommand (NoPage error) P = ⊤
IfNoCommand (NotUtf8 place) P = ⊤
IfNoCommand (NotToml place error cause) P = ⊤
IfNoCommand (NotJson place why) P = ⊤
IfNoCommand Read P = ⊤
IfNoCommand Write P = ⊤
IfNoCommand Memory P = ⊤

-- where a fault says that a page is not written, this holds of why
abbrev pub IfNoPage : Fault → (PageError → Type 0) → Type 0
IfNoPage (NoPage error) P = P error
IfNoPage (NoCommand name path meant) P = ⊤
IfNoPage (NotDescription lines) P = ⊤
IfNoPage (NotUtf8 place) P = ⊤
IfNoPage (NotToml place error cause) P = ⊤
IfNoPage (NotJson place why) P = ⊤
IfNoPage Read P = ⊤
IfNoPage Write P = ⊤
IfNoPage Memory P = ⊤
