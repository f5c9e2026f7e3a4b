-- The sample application, and the document of its page in each form.
use Rattle.std.specs.Prelude.{ℕ, false, List, [], ◌∷◌, Some, None, codes}
use Rattle.bpaf_doc.specs.Buffer.Parts.{Part}
use Rattle.bpaf_doc.specs.Buffer.Writes.{document_of}
use Rattle.bpaf_doc.specs.Manpage.Page.{title_arguments}
use Rattle.bpaf_meta.specs.Content.{Tree, item, skip, both, flag, Head, head}
use Rattle.bpaf_items.specs.Page.EnvTexts.{no_texts}
use Rattle.bpaf_items.specs.Page.HelpPage.{help_page_writes}
use Rattle.bpaf_help.specs.PageAnswers.{collected_document, manual_document}
use Rattle.helpdoc_engine.specs.declared.words.Form.{Form}
use Rattle.helpdoc_engine.specs.declared.words.Form.TheVariants.{Full, Brief, Html, Markdown, Man}
use Rattle.helpdoc_engine.specs.Rendering.{document_of_text}

-- its name
abbrev pub sample_name : List ℕ
sample_name = codes "app"

-- its tree, one flag: -v (character 118) or --verbose, with a help text
abbrev pub sample_tree : Tree
sample_tree = item (flag (both 118 (codes "verbose")) [] None (Some (document_of_text (codes "Talk more"))))

-- its info: a description, no other text, and no flags that ask for help
abbrev pub sample_info : Head
sample_info = head (Some (document_of_text (codes "Prints things"))) None None None skip

-- the words of its manual page's title line: its name and section 1, with no date, vendor or title
abbrev pub sample_title : List (List ℕ)
sample_title = title_arguments sample_name (codes "1") None None None

-- its help page, without environment texts
unfoldable pub sample_help : List Part
sample_help = document_of (help_page_writes (sample_name ∷ []) sample_info sample_tree skip false no_texts)

-- the help pages of the application and its commands, of which there are none
unfoldable pub sample_pages : List Part
sample_pages = collected_document sample_name sample_tree sample_info

-- its manual page
unfoldable pub sample_manual : List Part
sample_manual = manual_document sample_name sample_tree sample_info

-- the document of the page
abbrev pub sample_document : Form → List Part
sample_document Full = sample_help
sample_document Brief = sample_help
sample_document Html = sample_pages
sample_document Markdown = sample_pages
sample_document Man = sample_manual
