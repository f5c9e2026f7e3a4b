-- What the engine's private functions leave.
use Rattle.std.specs.Prelude.{◌≡◌, ℕ, List, None, ⊤}
use Rattle.clidoc_engine.specs.declared.faults.Fault.{Fault}
use Rattle.clidoc_engine.specs.declared.faults.Fault.TheVariants.{NotUtf8, NotToml, NotJson, NotDescription, NoCommand, NoPage, Read, Write, Memory}
use Rattle.toml.specs.Data.{Members}
use Rattle.description.specs.Content.{DescriptionSaid}
use Rattle.description_toml.specs.Described.{described}
use Rattle.clidoc_engine.specs.Chosen.{commands_of}
use Rattle.clidoc_engine.specs.declared.notation.Notation.{Notation}
use Rattle.clidoc_engine.specs.declared.notation.Notation.TheVariants.{Json, Toml}
use Rattle.clidoc_engine.specs.Inputs.{IsNoJsonText, IsNoTomlText}
use Rattle.clidoc_engine.specs.Newlines.{without_returns}
use Rattle.command_pages.specs.Pages.{level_at}
use Rattle.clidoc_engine.specs.Rendering.{IsUnwritable}
use Rattle.clidoc_engine.specs.Words.{PageSaid}

-- the fault is one of a reader and of bytes, and not of a text
abbrev pub IsOfInput : Fault → Type 0
IsOfInput Read = ⊤
IsOfInput (NotUtf8 place) = ⊤
IsOfInput Memory = ⊤
IsOfInput (NotToml place error cause) = ⊥
IsOfInput (NotJson place why) = ⊥
IsOfInput (NotDescription lines) = ⊥
IsOfInput (NoCommand name path meant) = ⊥
IsOfInput (NoPage error) = ⊥
IsOfInput Write = ⊥

-- the fault says that the text is not TOML, and where; or that an allocation failed
abbrev pub IsSyntaxFault : (text : List ℕ) → Fault → Type 0
IsSyntaxFault text (NotToml place error cause) = IsNoTomlText text place error
IsSyntaxFault text Memory = ⊤
IsSyntaxFault text (NotJson place why) = ⊥
IsSyntaxFault text (NotUtf8 place) = ⊥
IsSyntaxFault text (NotDescription lines) = ⊥
IsSyntaxFault text (NoCommand name path meant) = ⊥
IsSyntaxFault text (NoPage error) = ⊥
IsSyntaxFault text Read = ⊥
IsSyntaxFault text Write = ⊥

-- the fault says that the text gives no table as JSON, and where; or that an allocation failed
abbrev pub IsJsonFault : (text : List ℕ) → Fault → Type 0
IsJsonFault text (NotJson place why) = IsNoJsonText text place
IsJsonFault text Memory = ⊤
IsJsonFault text (NotUtf8 place) = ⊥
IsJsonFault text (NotToml place error cause) = ⊥
IsJsonFault text (NotDescription lines) = ⊥
IsJsonFault text (NoCommand name path meant) = ⊥
IsJsonFault text (NoPage error) = ⊥
IsJsonFault text Read = ⊥
IsJsonFault text Write = ⊥

-- the fault says that the text gives no table in this notation, and where; or that an allocation failed
abbrev pub IsTableFault : Notation → (text : List ℕ) → Fault → Type 0
IsTableFault notation text (NotToml place error cause) = (notation ≡ Toml) × IsNoTomlText (without_returns text) place error
IsTableFault notation text (NotJson place why) = (notation ≡ Json) × IsNoJsonText text place
IsTableFault notation text Memory = ⊤
IsTableFault notation text (NotUtf8 place) = ⊥
IsTableFault notation text (NotDescription lines) = ⊥
IsTableFault notation text (NoCommand name path meant) = ⊥
IsTableFault notation text (NoPage error) = ⊥
IsTableFault notation text Read = ⊥
IsTableFault notation text Write = ⊥

-- the fault says that the table is not a description; or that an allocation failed
abbrev pub IsOfData : Members → Fault → Type 0
IsOfData table (NotDescription lines) = described table ≡ None
IsOfData table Memory = ⊤
IsOfData table (NotUtf8 place) = ⊥
IsOfData table (NotToml place error cause) = ⊥
IsOfData table (NotJson place why) = ⊥
IsOfData table (NoCommand name path meant) = ⊥
IsOfData table (NoPage error) = ⊥
IsOfData table Read = ⊥
IsOfData table Write = ⊥

-- the fault is neither of a stream nor of bytes that are not UTF-8
abbrev pub IsOfContent : Fault → Type 0
IsOfContent (NotToml place error cause) = ⊤
IsOfContent (NotJson place why) = ⊤
IsOfContent (NotDescription lines) = ⊤
IsOfContent (NoCommand name path meant) = ⊤
IsOfContent (NoPage error) = ⊤
IsOfContent Memory = ⊤
IsOfContent (NotUtf8 place) = ⊥
IsOfContent Read = ⊥
IsOfContent Write = ⊥

-- the fault says that the commands lead nowhere; or that an allocation failed
abbrev pub IsLost : (commands : List (List ℕ)) → DescriptionSaid → Fault → Type 0
IsLost commands d (NoCommand name path meant) = level_at commands d ≡ None
IsLost commands d Memory = ⊤
IsLost commands d (NotUtf8 place) = ⊥
IsLost commands d (NotToml place error cause) = ⊥
IsLost commands d (NotJson place why) = ⊥
IsLost commands d (NotDescription lines) = ⊥
IsLost commands d (NoPage error) = ⊥
IsLost commands d Read = ⊥
IsLost commands d Write = ⊥

-- the fault says that the commands of the page lead nowhere, or that it is not written; or that an allocation failed
abbrev pub IsUnmade : PageSaid → DescriptionSaid → Fault → Type 0
IsUnmade p d (NoCommand name path meant) = level_at (commands_of p) d ≡ None
IsUnmade p d (NoPage error) = IsUnwritable p d error
IsUnmade p d Memory = ⊤
IsUnmade p d (NotUtf8 place) = ⊥
IsUnmade p d (NotToml place error cause) = ⊥
IsUnmade p d (NotJson place why) = ⊥
IsUnmade p d (NotDescription lines) = ⊥
IsUnmade p d Read = ⊥
IsUnmade p d Write = ⊥

abbrev pub IsNoCommand : Fault → Type 0
IsNoCommand (NoCommand name path meant) = ⊤
IsNoCommand Memory = ⊥
IsNoCommand (NotUtf8 place) = ⊥
IsNoCommand (NotToml place error cause) = ⊥
IsNoCommand (NotJson place why) = ⊥
IsNoCommand (NotDescription lines) = ⊥
IsNoCommand (NoPage error) = ⊥
IsNoCommand Read = ⊥
IsNoCommand Write = ⊥

-- the fault is one of reading a description: of the reader, of its text, or of memory
abbrev pub IsOfReading : Fault → Type 0
IsOfReading Read = ⊤
IsOfReading (NotUtf8 place) = ⊤
IsOfReading (NotToml place error cause) = ⊤
IsOfReading (NotJson place why) = ⊤
IsOfReading (NotDescription lines) = ⊤
IsOfReading Memory = ⊤
IsOfReading (NoCommand name path meant) = ⊥
IsOfReading (NoPage error) = ⊥
IsOfReading Write = ⊥

-- the same without `Read` and `NotUtf8`
abbrev pub IsOfText : Fault → Type 0
IsOfText (NotToml place error cause) = ⊤
IsOfText (NotJson place why) = ⊤
IsOfText (NotDescription lines) = ⊤
IsOfText Memory = ⊤
IsOfText (NotUtf8 place) = ⊥
IsOfText (NoCommand name path meant) = ⊥
IsOfText (NoPage error) = ⊥
IsOfText Read = ⊥
IsOfText Write = ⊥

-- the fault is one of making all files: one of reading a description, or a page is not written
abbrev pub IsOfFiles : Fault → Type 0
IsOfFiles Read = ⊤
IsOfFiles (NotUtf8 place) = ⊤
IsOfFiles (NotToml place error cause) = ⊤
IsOfFiles (NotJson place why) = ⊤
IsOfFiles (NotDescription lines) = ⊤
IsOfFiles (NoPage error) = ⊤
IsOfFiles Memory = ⊤
IsOfFiles (NoCommand name path meant) = ⊥
IsOfFiles Write = ⊥

-- the same without `Read` and `NotUtf8`
abbrev pub IsOfFilesText : Fault → Type 0
IsOfFilesText (NotToml place error cause) = ⊤
IsOfFilesText (NotJson place why) = ⊤
IsOfFilesText (NotDescription lines) = ⊤
IsOfFilesText (NoPage error) = ⊤
IsOfFilesText Memory = ⊤
IsOfFilesText (NotUtf8 place) = ⊥
IsOfFilesText (NoCommand name path meant) = ⊥
IsOfFilesText Read = ⊥
IsOfFilesText Write = ⊥

-- `NoPage` and `Memory` alone
abbrev pub IsOfPages : Fault → Type 0
IsOfPages (NoPage error) = ⊤
IsOfPages Memory = ⊤
IsOfPages (NotUtf8 place) = ⊥
IsOfPages (NotToml place error cause) = ⊥
IsOfPages (NotJson place why) = ⊥
IsOfPages (NotDescription lines) = ⊥
IsOfPages (NoCommand name path meant) = ⊥
IsOfPages Read = ⊥
IsOfPages Write = ⊥
