use Rattle.std.proofs.Common.{◌≡◌, refl, subst}
use Rattle.std.specs.Prelude.{codes, map, string_bytes}
use Rattle.bpaf_doc.specs.Manpage.Events.{word_of}
use Rattle.bpaf_doc.specs.Manpage.Exact.{roff_page}
use Rattle.bpaf_doc.specs.Manpage.Page.{IsManualPageOf, title_page}
use Rattle.bpaf_doc.specs.Manpage.Reader.{Control}
use Rattle.bpaf_meta.specs.View.{head_of, tree_of}
use Rattle.helpdoc_engine.specs.declared.words.Form.TheVariants as form
use Rattle.helpdoc_engine.specs.Sample.{sample_manual, sample_name, sample_title}
use Rattle.helpdoc_engine.proofs.Pages.{page_of_text}
use Rattle.helpdoc_engine.proofs.SamplePages.{sample_manual_is}
use Rattle.helpdoc_engine.proofs.sample.manual_page.Goals as goal

pub returns-clause-page : goal.returns-clause-page
returns-clause-page g c =
    let text = c.in_ok-render_manpage.field-0 in
    let same = sample_manual_is sample_name (tree_of c.args.tree.now) (head_of c.args.info.now) refl c.requires.tree c.requires.info in
    page_of_text sample_title form.Man sample_manual text
    (subst (λ document. IsManualPageOf (Control (codes "TH") (map word_of sample_title)) document (string_bytes text)) same c.in_ok-render_manpage.ensures.read)
    (subst (λ document. string_bytes text ≡ roff_page (title_page sample_title) document) same c.in_ok-render_manpage.ensures.exact)
