-- The words of std and of `specs/` that lemmas of this folder cite, passed on from one place.
pub use Rattle.bpaf_doc.specs.Buffer.Parts.{ink}
pub use Rattle.bpaf_doc.specs.Splitter.Chunks.{Chunk, Form, IsLine, IsLineEnd, IsPastNewline, IsWordEnd, LineBreak, Paragraph, Plain, Raw, Spells, before_code, blank, chunk_ink, chunks_in, chunks_of, closing, closing_paragraph, code_line, code_weight, columns, fence, fence_weight, has_some, is_line_byte, is_ordinary, is_word_byte, later, line_break, newline, nothing, opening, paragraph, word}
pub use Rattle.bpaf_doc.specs.Splitter.Promises.{IsGap, IsOneLine, IsPlace, IsSpelledOnce, IsText, StandInOrder, StandsFor, is_gap_byte}
pub use Rattle.bpaf_doc.specs.Splitter.Steps.{IsLettered, IsRunEnd, begins, is_lettered, letters}
pub use Rattle.memchr.specs.Find.{IsLastByte, NoneAfter, NoneBefore, Nowhere, Passes, is_byte}
pub use Rattle.std.proofs.Common.{Bool, IsTrue, List, MatchBool, MatchOption, None, Option, Some, [], ap, append-nil, append_assoc, ap₂, arith, codes, drop, drop-cons, drop_at, false, filter, get_or, get_or-take, inl, inr, length, length-append, length-drop, length-take, lit<, nat_lt, refl, subst, suc, sum_by, sym, take, take-append-drop, take_all, take_at, take_while, true, unwrap_or, zero, ℕ, ◌∙◌}
pub use Rattle.std.proofs.lemmas.Bool.{and_parts, cases_Bool, cases_lt, eqb-true, le-ltb, lt-ltb}
pub use Rattle.std.proofs.lemmas.Bool.Decides.{nat_tests}
pub use Rattle.std.proofs.lemmas.List.{drop_all, get_or_at, take-take, take_more, take_rest}
pub use Rattle.std.proofs.lemmas.List.Elements.{All-cons, All-nil, All-same, filter-append}
pub use Rattle.std.proofs.lemmas.List.Folds.{list_all-append, list_all_more}
pub use Rattle.std.proofs.lemmas.List.Sums.{AllPass-from_list_all, count_by-le-length, sum_by-append, sum_by-cons, take_while-cons}
pub use Rattle.std.proofs.lemmas.Str.{IsCharBoundary-after_ascii, IsCharBoundary-before_ascii, IsCharBoundary-from_take, IsUtf8-append, IsUtf8-drop, IsUtf8-encode, IsUtf8-from_ascii, IsUtf8-nil, IsUtf8-take, NoCharPasses-byte, chars-IsAscii, chars-append, chars-nil, chars_from_encodes, encode_ascii}
pub use Rattle.std.proofs.lemmas.Str.Pattern.{drop_at_char, starts_text, strip_prefix_char}
pub use Rattle.std.specs.Char.{IsScalar, char_set_contains, is_ascii_graphic, is_not_whitespace}
pub use Rattle.std.specs.Int.{is_in_range}
pub use Rattle.std.specs.List.{All, flat_map, list_all, prefix_len}
pub use Rattle.std.specs.Str.{IsAscii, IsCharBoundary, IsUtf8, NoCharPasses}
pub use Rattle.std.specs.Str.Pattern.{FindsTextPrefix, HasPassingCharAt, HasPrefixMatch, StripsPrefix}
pub use Rattle.unicode_width.proofs.Rules.{is_simple, is_simple_kind, str_width-printable, str_width-simple, width_or_zero}
