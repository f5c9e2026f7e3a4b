-- The words of std and of `specs/` that lemmas of this folder cite, passed on from one place.
pub use Rattle.bpaf_doc.specs.Html.Fragments.{End, Fragment, Hidden, Shown, Start, TextEnd, TextStart, first_is, shown_fragments, shows, visible}
pub use Rattle.bpaf_doc.specs.Markdown.Page.{Blank, Dash, EndsInBlankLine, Fence, Heading, IsMarkdownOf, LongDash, Mark, MarkdownSnippet, Newline, SecondHeading, TextFence, ThirdHeading, is_term_end, escaped_character, flat_map_places_from, fragment_text, headed_snippets, headings_of, is_after_empty_item, is_fence, is_header_start, is_heading, is_in_list, is_in_mono, is_item_start, is_mono_end, is_mono_start, is_newline, is_style_mark, is_text_end, mark_text, snippet_text, style_marks, styled_snippets, text_after, is_text_fence}
pub use Rattle.bpaf_doc.specs.Markdown.Steps.{Marked, blank_text, close_code, marked_after, marked_after_all, one_more, open_code, own_after, put, starts_line, starts_paragraph, with_blank_line, with_chunk, with_item, with_line, with_new_line, with_raw, with_words}
pub use Rattle.bpaf_doc.specs.Snippets.{Of, Put, Touch, fragments_in, is_mark_or_fragment}
pub use Rattle.bpaf_doc.specs.Splitter.Chunks.{Chunk, LineBreak, Paragraph, Raw, chunks_of, code_weight, columns, fence_weight, is_code_line, is_line_break, is_ordinary, is_paragraph, is_whole_line, starts}
pub use Rattle.bpaf_doc.specs.declared.buffer.Style.{Style}
pub use Rattle.std.proofs.Common.{Bool, IsTrue, List, [], ap, append-nil, append_assoc, arith, codes, cond, count_by, drop, false, filter, flat_map, length, length-append, map, nat_lt, ne_eqb, not, refl, reverse, rules, subst, suc, sym, take, true, zero, ℕ, ◌∙◌}
pub use Rattle.std.proofs.Math.Bool.{and-false, and-true}
pub use Rattle.std.proofs.lemmas.Bool.{and_from, and_parts, cases_Bool, eqb-true, false≢true, not-true, or_right}
pub use Rattle.std.proofs.lemmas.Grind.{common_steps}
pub use Rattle.std.proofs.lemmas.List.{drop-append-le, drop_all, map-append, reverse-append, take-append-drop}
pub use Rattle.std.proofs.lemmas.List.Elements.{filter-append}
pub use Rattle.std.proofs.lemmas.List.Folds.{list_all-append, list_any-append}
pub use Rattle.std.specs.List.{after_last, list_all, list_any, prefix_len, suffix_len}
