-- The words of std and of `specs/` that lemmas of this folder cite, passed on from one place.
pub use Rattle.bpaf_doc.specs.Buffer.Parts.{IsWellNested, Part}
pub use Rattle.bpaf_doc.specs.Html.Fragments.{End, Fragment, Hidden, Shown, Start, TextEnd, TextStart, part_fragments, shown_fragments, shows, visible}
pub use Rattle.bpaf_doc.specs.Html.Page.{B, Break, Dd, Div, Dl, Dt, Element, HasBlockTags, HtmlSnippet, I, IndentedDiv, IsHtmlOf, IsHtmlPageOf, IsHtmlTextPageOf, IsWellNestedHtml, Li, Newline, P, Tt, asks_break, block_elements, characters, close_each, closing_tag, enclosed, erased, escaped_character, fragment, fragment_text, html_text, is_block_tag, is_break, is_no_angle, is_style_tag, joined, line_break, nothing, open_each, opening_tag, snippet_text, style_elements, styled_snippets}
pub use Rattle.bpaf_doc.specs.Html.Steps.Page.{Written, blank_page, closed, first_or_false, is_empty, is_header, page_after, page_after_all, with_heading, with_words}
pub use Rattle.bpaf_doc.specs.Html.Steps.View.{IsFirstSpelled, IsPlain, spelling_of}
pub use Rattle.bpaf_doc.specs.Html.Steps.View.{depth_after, depth_after_text, part_walk, text_rest, walk}
pub use Rattle.bpaf_doc.specs.Snippets.{Of, Put, Touch, fragments_in, is_mark_or_fragment}
pub use Rattle.bpaf_doc.specs.Splitter.Chunks.{Chunk, IsLine, LineBreak, Paragraph, Raw, chunks_of, code_weight, columns, is_inked, is_line_byte, is_paragraph, is_raw}
pub use Rattle.bpaf_doc.specs.declared.buffer.Block.{Block}
pub use Rattle.bpaf_doc.specs.declared.buffer.Style.{Style}
pub use Rattle.bpaf_doc.specs.declared.html.Language.{Language}
pub use Rattle.std.proofs.Common.{Bool, IsAscii, IsTrue, IsUtf8, List, MatchOption, None, Option, Some, [], ap, append-nil, append_assoc, ap₂, arith, codes, drop, false, filter, flat_map, get_or, get_or-drop, get_or-take, inl, inr, length, length-take, lit<, map, nat_eq, not, refl, reverse, rules, string_bytes, subst, suc, sym, take, take-append-drop, true, zero, ℕ, ⊎_elim, ◌∙◌}
pub use Rattle.std.proofs.Math.Bool.{and-false, and-true, or-true}
pub use Rattle.std.proofs.lemmas.Bool.{and_from, and_parts, cases_Bool, cases_lt, eqb-false, false≢true, ne_eqb}
pub use Rattle.std.proofs.lemmas.Bool.Decides.{Decides-eqb, nat_tests}
pub use Rattle.std.proofs.lemmas.List.{length-append, length-map, length_push, reverse-append, take_at}
pub use Rattle.std.proofs.lemmas.List.Concat.{flat_map-append}
pub use Rattle.std.proofs.lemmas.List.Elements.{filter-append}
pub use Rattle.std.proofs.lemmas.List.Folds.{list_all-append, list_all-map}
pub use Rattle.std.proofs.lemmas.List.Sums.{AllPass-from_list_all}
pub use Rattle.std.proofs.lemmas.Str.{IsCharBoundary-after_ascii, IsUtf8-append, IsUtf8-drop, IsUtf8-encode, IsUtf8-from_ascii, IsUtf8-nil, chars-nil, encode_ascii}
pub use Rattle.std.specs.List.{before_first, ends_with, enumerate_from, list_all, list_any, position_or_len}
