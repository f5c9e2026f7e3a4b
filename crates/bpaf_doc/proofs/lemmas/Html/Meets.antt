-- The pages that the code writes are what `IsHtmlOf` promises.
use Rattle.std.specs.Prelude.{◌≡◌}
use Rattle.bpaf_doc.proofs.lemmas.Html.Words.{ℕ, Bool, true, List, sym, ap, ◌∙◌, subst, arith, filter, list_all, Part, IsWellNested, is_line_byte, Fragment, shown_fragments, IsHtmlOf, IsWellNestedHtml, erased, html_text, blank_page, page_after_all}
use Rattle.bpaf_doc.proofs.lemmas.Html.Fragments.Walking.{walked}
use Rattle.bpaf_doc.proofs.lemmas.Html.Fragments.Lines.{fragment_is_line, walk_lines}
use Rattle.bpaf_doc.proofs.lemmas.Html.Fragments.Nests.{Nests, walk_nests}
use Rattle.bpaf_doc.proofs.lemmas.Html.Cut.{spelled, cut_from, page-spelled, cut-fragments, cut-styles}
use Rattle.bpaf_doc.proofs.lemmas.Html.Text.{plain_spelled}
use Rattle.bpaf_doc.proofs.lemmas.Html.Breaks.{breaks_of, touching_of}
use Rattle.bpaf_doc.proofs.lemmas.Html.Nests.{nests_html, nests_tags}

pub shown_lines : (document : List Part) (full : Bool) → list_all fragment_is_line (shown_fragments full document) ≡ true
shown_lines document full = ap (list_all fragment_is_line) (sym (walked full document)) ∙ walk_lines full 0 document

-- without tags and newlines a page is the HTML text, of every document
pub page_text : (document : List Part) (full : Bool) (answer : List ℕ) → answer ≡ (page_after_all blank_page (shown_fragments full document)).bytes → filter is_line_byte (erased answer) ≡ html_text document full
page_text document full answer e = grind (arith, page-spelled blank_page, plain_spelled, cut-fragments blank_page, shown_lines document full)

-- the page of a well-nested document
pub page_meets : (document : List Part) (full : Bool) (answer : List ℕ) → IsWellNested document → answer ≡ (page_after_all blank_page (shown_fragments full document)).bytes → IsHtmlOf document full answer
page_meets document full answer nested e =
    let fs : List Fragment = shown_fragments full document in
    let whole : answer ≡ spelled (cut_from blank_page fs) = e ∙ page-spelled blank_page fs in
    record {
      nested = subst IsWellNestedHtml (sym whole) (nests_html (subst Nests (walked full document) (walk_nests nested full 0)) blank_page);
      text = page_text document full answer e;
      cut = cut_from blank_page fs;
      spelling = whole;
      fragments = cut-fragments blank_page fs;
      breaks = breaks_of blank_page fs;
      touching = touching_of blank_page fs;
      tags = nests_tags (subst Nests (walked full document) (walk_nests nested full 0)) blank_page;
      styles = cut-styles blank_page fs;
    }
