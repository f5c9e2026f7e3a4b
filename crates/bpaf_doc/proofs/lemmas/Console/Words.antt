-- The words of std and of `specs/` that lemmas of this folder cite, passed on from one place.
pub use Rattle.bpaf_doc.specs.Buffer.Parts.{End, HasUtf8Texts, Part, Start, Text, ink, is_end_of, is_mark_of, is_start_of, part_bytes, part_ink}
pub use Rattle.bpaf_doc.specs.Console.Exact.{BlankLine, NewLine, NoBreak, PageSoFar, Request, at_least_new_line, console_page, placed, saturated}
pub use Rattle.bpaf_doc.specs.Console.Layout.{AreApart, BeginsClear, BreaksForRoom, BreaksWhereAsked, Closes, Event, FitsWidth, FollowsBlank, Gap, HasBlankLine, IsBounded, IsFirstInLine, IsKept, IsLayout, KeepsBlanks, KeepsMargin, MayStand, Opens, PadsToMargin, Passed, Place, Placed, Shows, StandsAlone, Stretch, WrapsOnlyIfNeeded, asks_blank_line, asks_newline, chunk_at, column, event_bytes, event_columns, events_of, events_since_ink, holds_line, is_empty_code, is_gap, is_inked_stretch, is_light, is_light_mark, is_newline, is_placed, is_raw_or_ref, is_ref, is_silent_block, is_written, leads_to_place, line_before, opens_body, padding, part_events, room_of, shown_events, shows_chunk, stretch_bytes, stretch_columns, stretch_lines, text_of, widest}
pub use Rattle.bpaf_doc.specs.Console.Margin.{Indent, Level, Outdent, Shift, after_section4, greatest, greatest_margin, has_empty_block, indents_in_force, is_indent, is_outdent, is_section4, is_skipped, is_term, margin, part_shift, shifts, skips_pair, tab_stop, term_length, term_lengths, text_columns}
pub use Rattle.bpaf_doc.specs.Console.Steps.Text.{hidden_after, hides}
pub use Rattle.bpaf_doc.specs.Console.Steps.Page.{IsPastLine, Sheet, blank_sheet, code_put, margin_of, on, page_of, sheet_of, text_put}
pub use Rattle.bpaf_doc.specs.Console.Steps.Text.{console_text, no_pairs, pairs_after, part_put, parts_put, tab_stop_from, whole_page}
pub use Rattle.bpaf_doc.specs.Shown.{breaks_off, console_ink, is_hidden, is_inline, mark_bytes, numbered, shown_chunks, shown_part_ink, stays_open, through_paragraph}
pub use Rattle.bpaf_doc.specs.Splitter.Chunks.{Chunk, IsLine, LineBreak, Paragraph, Raw, chunks_of, code_weight, columns, fence_weight, has_some, is_inked, is_ordinary, is_paragraph, is_raw, is_whole_line, starts}
pub use Rattle.bpaf_doc.specs.Splitter.Promises.{IsText}
pub use Rattle.bpaf_doc.specs.declared.buffer.Block.{Block}
pub use Rattle.bpaf_doc.specs.declared.buffer.Style.{Style}
pub use Rattle.bpaf_doc.specs.declared.console.pairs.Pairs.{Pairs}
pub use Rattle.std.proofs.Common.{All, Bool, IfOk, IsUtf8, List, Option, Result, Some, String, [], add-one, ap, append-nil, append_assoc, ap₂, arith, codes, cond, count_by, drop, drop-drop, false, filter, flat_map, fold, inl, inr, le-ltb, length, length-append, lt-ltb, map, max, min, nat_eq, nat_le, nat_lt, not, refl, replicate, reverse, rules, slice_get, string_bytes, subst, suc, sum_by, sym, take, take_at, true, zero, ℕ, ◌∙◌}
pub use Rattle.std.proofs.Math.Bool.{and-false, and-true, or-false}
pub use Rattle.std.proofs.Math.Nat.{add-zero, zero-add}
pub use Rattle.std.proofs.lemmas.Bool.{and_from, and_parts, cases_lt, eqb-true, false≢true, not-false, not-true, or_cases, or_parts}
pub use Rattle.std.proofs.lemmas.Bool.Decides.{Decides-eqb, nat_tests}
pub use Rattle.std.proofs.lemmas.Grind.{common_steps, flat_map-append, replicate_next}
pub use Rattle.std.proofs.lemmas.List.{drop-append-le, drop_all, length-drop, length-reverse, nil_from_length, replicate-append-replicate, reverse-append, reverse-reverse, same_from_push, take-append-drop}
pub use Rattle.std.proofs.lemmas.List.Elements.{All-append, All-cons, All-get_or, All-head, All-nil, All-tail}
pub use Rattle.std.proofs.lemmas.List.Folds.{list_all-append, list_any-append}
pub use Rattle.std.proofs.lemmas.List.Sums.{sum_by-append, sum_by-cons, take_while-cons}
pub use Rattle.std.proofs.lemmas.Option.{get_or_from_slice_get, slice_get_past, slice_get_within}
pub use Rattle.std.proofs.lemmas.Str.{IsCharBoundary-from_take, IsUtf8-append, IsUtf8-from_ascii, IsUtf8-nil, IsUtf8-string_bytes, chars-IsAscii, chars-append, chars-encodes, encode_ascii, encodes-append, encodes-chars, length-le-encodes, scalars-chars}
pub use Rattle.std.specs.Char.{is_ascii_graphic, is_not_whitespace, is_whitespace}
pub use Rattle.std.specs.List.{after_last, before_first, ends_with, enumerate_from, list_all, list_any, position_or_len, prefix_len, slice_split}
pub use Rattle.std.specs.Prelude.{IsTrue, get_or, ⊤}
pub use Rattle.std.specs.Str.{bytes_eq, trim_end}
