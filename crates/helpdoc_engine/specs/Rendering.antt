-- What is promised of a page, form by form.
use Rattle.std.specs.Prelude.{◌≡◌, ℕ, true, false, List, [], ◌∷◌, None, codes, map, IsUtf8}
use Rattle.bpaf_doc.specs.declared.buffer.Style.TheVariants as style
use Rattle.bpaf_doc.specs.Html.Page.{IsHtmlOf}
use Rattle.bpaf_doc.specs.Html.Exact.{html_page}
use Rattle.bpaf_doc.specs.Console.Layout.{IsLayout}
use Rattle.bpaf_doc.specs.Console.Exact.{console_page}
use Rattle.bpaf_doc.specs.Markdown.Page.{IsMarkdownOf}
use Rattle.bpaf_doc.specs.Markdown.Exact.{markdown_page}
use Rattle.bpaf_doc.specs.Manpage.Page.{title_arguments, title_page, IsManualPageOf}
use Rattle.bpaf_doc.specs.Manpage.Exact.{roff_page}
use Rattle.bpaf_doc.specs.Manpage.Events.{word_of}
use Rattle.bpaf_doc.specs.Buffer.Parts.{Part, Text}
use Rattle.bpaf_doc.specs.Manpage.Reader.{Control}
use Rattle.helpdoc_engine.specs.declared.words.Form.{Form}
use Rattle.helpdoc_engine.specs.declared.words.Form.TheVariants.{Full, Brief, Html, Markdown, Man}

-- the document of one text
abbrev pub document_of_text : List ℕ → List Part
document_of_text input = Text input style.Text ∷ []

-- the words of its manual page's title line: the program's name and section 1, with no date, vendor or title
abbrev pub text_title : List (List ℕ)
text_title = title_arguments (codes "helpdoc") (codes "1") None None None

-- What the form's renderer promises of the bytes that it makes of a document. A console page is a layout of it at 100
-- columns, which has the ink of what is shown; a manual page is read as the title and the document's controls, headings
-- and texts.
abbrev pub IsRendering : (title : List (List ℕ)) → Form → List Part → List ℕ → Type 0
IsRendering title Full document output = IsLayout document true 100 output
IsRendering title Brief document output = IsLayout document false 100 output
IsRendering title Html document output = IsHtmlOf document true output
IsRendering title Markdown document output = IsMarkdownOf document true output
IsRendering title Man document output = IsManualPageOf (Control (codes "TH") (map word_of title)) document output

-- exactly the bytes that it makes
abbrev pub page_bytes : (title : List (List ℕ)) → Form → List Part → List ℕ
page_bytes title Full document = console_page true 100 document
page_bytes title Brief document = console_page false 100 document
page_bytes title Html document = html_page true false document
page_bytes title Markdown document = markdown_page true document
page_bytes title Man document = roff_page (title_page title) document

-- a page of the document in this form: a text for which the renderer's promise and its exact clause hold
pub record IsPage (title : List (List ℕ)) (form : Form) (document : List Part) (output : List ℕ) : Type 0 where
  pub utf8 : IsUtf8 output
  pub rendering : IsRendering title form document output
  pub exact : output ≡ page_bytes title form document
