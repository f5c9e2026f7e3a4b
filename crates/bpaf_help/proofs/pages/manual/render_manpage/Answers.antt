use Rattle.std.proofs.Common.{◌∙◌, ap, string_bytes}
use Rattle.bpaf_doc.specs.Manpage.Page.{title_arguments, title_page}
use Rattle.bpaf_meta.specs.View.{head_of, tree_of, text_of}
use Rattle.bpaf_help.specs.PageAnswers.{manual_document}
use Rattle.bpaf_help.specs.View.{section_name}
use Rattle.bpaf_help.proofs.Steps.{manual_read, given_text, same_words}
use Rattle.bpaf_help.proofs.pages.manual.render_manpage.Goals as goal

pub returns-clause-read : goal.returns-clause-read
returns-clause-read g c =
    let words = title_arguments c.args.app.now (section_name c.args.section) (text_of c.args.date) (text_of c.args.vendor) (text_of c.args.title) in
    let same = same_words c.args.app.now c.as_str.ensures (given_text c.args.date _ c.unwrap_or.result c.unwrap_or.ensures) (given_text c.args.vendor _ c.unwrap_or-2.result c.unwrap_or-2.ensures) (given_text c.args.title _ c.unwrap_or-3.result c.unwrap_or-3.ensures) in
    manual_read c.titled_page.ensures.takes c.titled_page.ensures.manual words string_bytes c.in_ok-document.document (manual_document c.args.app.now (tree_of c.args.meta.now) (head_of c.args.info.now)) c.in_ok-page.page c.into_roff.result
    (c.in_ok-page.ensures ∙ ap title_page same) c.in_ok-document.ensures c.into_roff.ensures.read
