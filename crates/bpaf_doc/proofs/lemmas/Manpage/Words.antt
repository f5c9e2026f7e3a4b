-- The words of std and of `specs/` that lemmas of this folder cite, passed on from one place.
pub use Rattle.bpaf_doc.specs.Buffer.Parts.{End, Part, Start, Text, is_end_of, is_mark_of}
pub use Rattle.bpaf_doc.specs.Manpage.Events.{Gives, Step, Stop, captured_text, captured_texts, end_name, events_of_steps, font_of, heading_name, is_section, is_start, sets_stripping, last_is_start, page_events, page_steps, place_steps, places, start_name, starts_line, style_name, word_of}
pub use Rattle.bpaf_doc.specs.Manpage.Page.{IsManualPageOf, IsPageOf, TakesDocument, title_page}
pub use Rattle.bpaf_doc.specs.Manpage.Reader.{AreArguments, AtLineStart, Control, Event, IsArgument, IsName, IsSpanText, LineEnd, Place, Reads, Span, StartsNoControl, WithinLine}
pub use Rattle.bpaf_doc.specs.Manpage.Steps.{Draft, after_block, after_end, after_part, after_parts, after_section, after_start, after_text, draft_on}
pub use Rattle.bpaf_doc.specs.declared.buffer.Block.{Block}
pub use Rattle.bpaf_doc.specs.declared.buffer.Style.{Style}
pub use Rattle.bpaf_roff.proofs.lemmas.EscapedText.{signs-append, text_after-append}
pub use Rattle.bpaf_roff.specs.Escaping.{Break, Byte, apostrophe, backslash, blank, byte_text, dash, dot, escaped, is_control_sign, is_line_start, newline, newline_as_blank, sign_text, signs, spaces_text, text_after}
pub use Rattle.bpaf_roff.specs.Pieces.{Piece}
pub use Rattle.bpaf_roff.specs.Roff.{RoffText, Script, argument_pieces, argument_word, control_pieces, font_escape, linebreak_pieces, preamble, rendering, restore_font, text_of, text_pieces, with_written}
pub use Rattle.bpaf_roff.specs.declared.escape.Apostrophes.TheVariants.{Handle}
pub use Rattle.bpaf_roff.specs.declared.escape.Escape.{Escape}
pub use Rattle.bpaf_roff.specs.declared.roff.Font.{Font}
pub use Rattle.std.proofs.Common.{Bool, IfOk, List, None, Option, Result, Some, [], ap, append_assoc, arith, codes, false, find, flat_map, inl, inr, map, ne_eqb, not, refl, subst, sym, true, ℕ, ◌∙◌}
pub use Rattle.std.proofs.lemmas.List.Concat.{flat_map-append}
pub use Rattle.std.proofs.lemmas.List.{append-nil, drop-append-le, drop_all, length-append, reverse-append}
pub use Rattle.std.specs.List.{AllByRecursion, list_all}
pub use Rattle.std.specs.Str.{str_to_ascii_uppercase}
