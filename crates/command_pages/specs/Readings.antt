-- What readers read in the pages of a level.
use Rattle.std.specs.Prelude.{ℕ, List}
use Rattle.man_page.specs.Kept.{page_kept as kept_in_manual}
use Rattle.man_page.specs.Promises.{ReadsAs as ReadsAsManual}
use Rattle.markdown_page.specs.Kept.{page_kept as kept_in_markdown}
use Rattle.markdown_page.specs.Promises.{ReadsAs as ReadsAsMarkdown}
use Rattle.description.specs.Content.{DescriptionSaid}
use Rattle.description_pages.specs.Levels.{SubjectSaid}
use Rattle.description_pages.specs.declared.levels.Depth.{Depth}
use Rattle.description.specs.Words.{WordsSaid}
use Rattle.command_pages.specs.Pages.{TitleGiven, manual_parts, markdown_parts, title_line, title_of}

-- a reader of man(7) reads the bytes, whole, as what a manual page keeps of what is said
abbrev pub IsManualOf : DescriptionSaid → Depth → TitleGiven → SubjectSaid → List ℕ → Type 0
IsManualOf d depth given s output = ReadsAsManual output (kept_in_manual (title_line d given s) (manual_parts depth d.words s))

-- a reader of CommonMark reads them so
abbrev pub IsMarkdownOf : Depth → WordsSaid → SubjectSaid → List ℕ → Type 0
IsMarkdownOf depth fixed s output = ReadsAsMarkdown output (kept_in_markdown (title_of s) (markdown_parts depth fixed s))
