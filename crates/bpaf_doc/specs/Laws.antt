-- Theorems about the pages as functions.
use Rattle.std.specs.Prelude.{◌<◌, ◌^◌}
use Rattle.bpaf_doc.specs.Words.{ℕ, Bool, List, length, Part, HasUtf8Texts, IsWellNested}
use Rattle.bpaf_doc.specs.Console.Layout.{IsLayout}
use Rattle.bpaf_doc.specs.Console.Exact.{console_page}
use Rattle.bpaf_doc.specs.Html.Page.{IsHtmlPageOf, IsHtmlTextPageOf}
use Rattle.bpaf_doc.specs.Html.Exact.{html_page}

-- The console page of a document of UTF-8 texts and fewer than 2 ^ 59 parts is a layout of it, and so has the ink of
-- what is shown, with a backquote at each TermRef mark. (The margins of that many parts fit a usize, and no document in
-- memory has more: `Doc::parts`.)
abbrev pub IsExactPageLayout : Type 0
IsExactPageLayout =
    (full : Bool) (width : ℕ) (document : List Part) → HasUtf8Texts document → length document < 2 ^ 59
    → IsLayout document full width (console_page full width document)

-- the HTML page of a well-nested document is well nested, and has its tags, texts and breaks
abbrev pub IsExactHtmlPage : Type 0
IsExactHtmlPage =
    (document : List Part) (full include_css : Bool) → IsWellNested document
    → IsHtmlPageOf document full include_css (html_page full include_css document)

-- the HTML page of any document erases to its HTML text
abbrev pub IsExactHtmlText : Type 0
IsExactHtmlText =
    (document : List Part) (full include_css : Bool)
    → IsHtmlTextPageOf document full include_css (html_page full include_css document)
