-- What a section of an application and a section of the manual say: their content.
use Rattle.std.specs.Prelude.{ℕ, List, codes, map, string_bytes}
use Rattle.bpaf_meta.specs.View.{tree_of, head_of}
use Rattle.bpaf_help.specs.declared.pages.sections.DocSection.{DocSection}
use Rattle.bpaf_help.specs.declared.pages.section.Section.{Section}
use Rattle.bpaf_help.specs.declared.pages.section.Section.TheVariants as section
use Rattle.bpaf_help.specs.Chapters.{Chapter}

-- a `DocSection`
abbrev pub chapter_of : {A L : Type 0} → DocSection A L → Chapter
chapter_of s = record { path = map string_bytes s.path.items; info = head_of s.info.now; content = tree_of s.meta.now }

-- a `Section`, as the title line has it
abbrev pub section_name : Section → List ℕ
section_name section.General = codes "1"
section_name section.SystemCall = codes "2"
section_name section.LibraryFunction = codes "3"
section_name section.SpecialFile = codes "4"
section_name section.FileFormat = codes "5"
section_name section.Game = codes "6"
section_name section.Misc = codes "7"
section_name section.Sysadmin = codes "8"
section_name (section.Custom name) = name.now
