-- The words of std and of `specs/` that lemmas of this folder cite, passed on from one place.
pub use Rattle.bpaf_doc.specs.Buffer.Equality.{document_cmp, same_document}
pub use Rattle.bpaf_doc.specs.Buffer.FirstLine.{IsSplitLine, leading_texts}
pub use Rattle.bpaf_doc.specs.Buffer.Growth.{Grows, IsCheckpointOf, Reached, RollsBack}
pub use Rattle.bpaf_doc.specs.Buffer.Parts.{End, HasUtf8Texts, IsWellNested, Part, Start, Text, document_bytes, enclosed, ink, joined, nothing, part_bytes, text}
pub use Rattle.bpaf_doc.specs.Buffer.Steps.Ends.{AreEnds, CanMove, IsEnd, MayTake, end_before, end_then_text, is_text_of, moved, part_with, parts_from, text_end, with_last_end, with_text_end}
pub use Rattle.bpaf_doc.specs.Buffer.Writes.{Write, document_of, emphasis, inside, is_newline, literal, pair_write, part_then_text, parts, path_writes, plain, same_style, start, title_writes, titled, with_text, with_write, with_writes}
pub use Rattle.bpaf_doc.specs.Html.Fragments.{shown_fragments}
pub use Rattle.bpaf_doc.specs.Html.Steps.Page.{blank_page, page_after_all}
pub use Rattle.bpaf_doc.specs.declared.buffer.Block.TheVariants.{InlineBlock, Section3}
pub use Rattle.bpaf_doc.specs.declared.buffer.Kind.{Kind}
pub use Rattle.bpaf_doc.specs.declared.buffer.PartEnd.{PartEnd}
pub use Rattle.bpaf_doc.specs.declared.buffer.Style.{Style}
pub use Rattle.std.proofs.Common.{All, Bool, List, MatchOption, None, OnErr, OnOk, Option, Result, Some, [], add-zero, ap, append-nil, append_assoc, arith, drop, false, get_or, length, length-append, length-drop, length-take, map, option_to_list, refl, rules, string_bytes, subst, suc, sym, take, take-append-drop, take_all, true, vec_capacity, vec_len, zero, ℕ, ◌∙◌}
pub use Rattle.std.proofs.lemmas.List.{drop-append-le, drop-drop, drop-take, drop_all, length-take-le, take-append-le, take-take, take_at}
pub use Rattle.std.proofs.lemmas.List.Elements.{All-cons, All-head, All-nil, All-tail}
pub use Rattle.std.proofs.lemmas.List.Sums.{fold-append}
pub use Rattle.std.proofs.lemmas.Result.{on_err_weaker}
pub use Rattle.std.proofs.lemmas.Str.{IsCharBoundary-from_take, IsUtf8-append, IsUtf8-encode, IsUtf8-nil, IsUtf8-string_bytes}
pub use Rattle.std.specs.Borrow.{Bor}
pub use Rattle.std.specs.List.{after_first, before_first, list_any, position_or_len, slice_get}
pub use Rattle.std.specs.Str.{IsUtf8}
