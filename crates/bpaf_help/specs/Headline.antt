-- The headline: what is promised together of the console page, the HTML and the roff of a document, and of the manual
-- page and the normal form of the tree of an application.
use Rattle.std.specs.Prelude.{◌≡◌, true, false, string_bytes}
use Rattle.bpaf_roff.specs.Roff.{Script}
use Rattle.bpaf_doc.specs.Buffer.Parts.{IsWellNested, ink}
use Rattle.bpaf_doc.specs.Shown.{console_ink}
use Rattle.bpaf_doc.specs.Console.Layout.{IsLayout}
use Rattle.bpaf_doc.specs.Html.Page.{IsHtmlPageOf, IsHtmlTextPageOf}
use Rattle.bpaf_doc.specs.Manpage.Page.{TakesDocument, IsPageOf}
use Rattle.bpaf_meta.specs.Meta.Shape.{HasUsageShape, KeepsStrict}
use Rattle.bpaf_meta.specs.Meta.Sequences.{ShowsSame}
use Rattle.bpaf_meta.specs.View.{head_of, text_of, tree_of}
use Rattle.bpaf_help.specs.declared.headline.Sources.{Sources}
use Rattle.bpaf_help.specs.declared.headline.Headline.{Headline}
use Rattle.bpaf_help.specs.PageAnswers.{IsManualOf}
use Rattle.bpaf_help.specs.View.{section_name}

-- Each field is a clause of the call that made the result, for what the call was given.
pub record IsHeadline {D M A P : Type 0} (of : Sources D M) (page : Script) (made : Headline A P M) : Type 0 where
  -- `ink` of `render_console`: the full console text has exactly the document's inked characters, in order, and a
  -- backquote at each mark of a term reference
  pub same_ink : ink (string_bytes made.console) ≡ console_ink true of.document.now
  -- `layout` of `render_console`: its lines are within the bound, which is its field `bound`, under the premises there
  pub layout : IsLayout of.document.now true of.width (string_bytes made.console)
  -- `html` of `render_html`: for a well-nested document the full HTML is well nested
  pub html : IsWellNested of.document.now → IsHtmlPageOf of.document.now true false (string_bytes made.html)
  -- `text` of `render_html`: for any document it erases to the HTML text
  pub text : IsHtmlTextPageOf of.document.now true false (string_bytes made.html)
  -- `read` of `render_roff`: after a page that takes a document, the body reads back to the document's controls,
  -- headings and texts
  pub read : TakesDocument page → IsPageOf page of.document.now (string_bytes made.roff)
  -- `read` of `render_manpage`: the manual page reads back to its title line and its document
  pub manual_read : IsManualOf of.app.now (section_name of.title.section) (text_of of.title.date)
      (text_of of.title.vendor) (text_of of.title.title) (tree_of of.tree.now) (head_of of.info.now)
      (string_bytes made.manual)
  -- `shape` of `normalized`: the tree is normalized to the usage shape
  pub shape : HasUsageShape of.for_usage (tree_of made.normal)
  -- `strict` of `normalized`: with a `--` only if the tree has one
  pub strict : KeepsStrict of.for_usage (tree_of of.tree.now) (tree_of made.normal)
  -- `shows` of `normalized`: showing exactly the same item sequences
  pub shows : ShowsSame of.for_usage (tree_of made.normal) (tree_of of.tree.now)
