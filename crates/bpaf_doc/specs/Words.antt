-- What most of these definitions are written with: lists, numbers and tests of the standard library, the words of roff,
-- the styles and blocks, and parts and chunks. Other files take these names from here.
pub use Rattle.std.specs.Prelude.{All, Bool, IsTrue, List, MatchOption, None, Option, Some, [], codes, count_by, drop, false, filter, find, flat_map, fold, length, map, max, min, nat_eq, nat_le, nat_lt, not, refl, replicate, reverse, slice_get, slice_index, slice_range, string_bytes, suc, sum_by, take, true, unwrap_or, zero, ℕ, ⊤}
pub use Rattle.std.specs.List.{AllByRecursion, AllPass, after_first, after_last, before_first, ends_with, list_all, list_any, position_or_len, slice_split}
pub use Rattle.std.specs.Str.{IsUtf8, bytes_eq, str_to_ascii_uppercase, trim_end}
pub use Rattle.std.specs.Int.{is_in_range}
pub use Rattle.bpaf_roff.specs.Escaping.{apostrophe, backslash, blank, dash, dot, escaped, is_line_start, newline, newline_as_blank}
pub use Rattle.bpaf_roff.specs.Roff.{RoffText, Script, argument_word, control_pieces, font_escape, linebreak_pieces, no_script, preamble, rendering, restore_font, text_pieces, with_pieces, with_written}
pub use Rattle.bpaf_roff.specs.Pieces.{Piece}
pub use Rattle.bpaf_roff.specs.declared.escape.Escape.{Escape}
pub use Rattle.bpaf_roff.specs.declared.escape.Apostrophes.TheVariants.{Handle}
pub use Rattle.bpaf_roff.specs.declared.roff.Font.{Font, TheVariants.Bold, TheVariants.Italic, TheVariants.Roman}
pub use Rattle.bpaf_doc.specs.declared.buffer.{Block.Block, Style.Style}
pub use Rattle.bpaf_doc.specs.Buffer.Parts.{End, HasUtf8Texts, IsWellNested, Part, Start, Text, document_bytes, document_ink, ink, is_end_of, is_mark_of, is_start_of, part_bytes}
pub use Rattle.bpaf_doc.specs.Splitter.Chunks.{Chunk, IsLine, IsWordEnd, LineBreak, Paragraph, Plain, Raw, Spells, chunk_ink, chunks_of, code_weight, columns, fence_weight, has_some, is_code_line, is_inked, is_line_break, is_line_byte, is_ordinary, is_paragraph, is_raw, is_whole_line, starts}
pub use Rattle.bpaf_doc.specs.Shown.{console_ink, is_hidden, is_inline, is_term_ref, mark_bytes, numbered, shown_chunks, stays_open}
