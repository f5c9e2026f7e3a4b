-- The words of std and of the crates below that definitions of `specs/` use, passed on from one place.
pub use Rattle.bpaf_doc.specs.Buffer.Equality.{document_cmp, same_document, same_text}
pub use Rattle.bpaf_doc.specs.Buffer.Parts.{IsWellNested, Part, Text}
pub use Rattle.bpaf_doc.specs.Buffer.Writes.{Write, doc_writes, document_of, em_doc_writes, emphasis, end, inside, literal, path_writes, plain, start, text, with_writes}
pub use Rattle.bpaf_meta.specs.Content.{Head, Leaf, Name, Tree, Trees, adjacent, and_of, any, argument, both, command, custom_usage, flag, head, item, long, many, no_trees, optional, or_of, positional, required, short, skip, strict, subsection, suffix, tree}
pub use Rattle.bpaf_meta.specs.Usage.Writes.{metavar_writes, usage_writes}
pub use Rattle.bpaf_meta.specs.View.{head_of, leaf_of, name_of, text_of, tree_of}
pub use Rattle.std.specs.Borrow.{Bor}
pub use Rattle.std.specs.Cmp.{IsEquivalence, IsPartialOrder, IsTotalOrder, eq_by_cmp_equiv, first_so, partial_order_from_agreeing_total, second_so, unsigned_Decides, unsigned_ties}
pub use Rattle.std.specs.Cmp.Lexicographic.{bytes_decides, options_total, slice_cmp, texts_ties}
pub use Rattle.std.specs.List.{AllByRecursion, IsDistinct, after_last, last_or, list_any, position, range_with_len}
pub use Rattle.std.specs.Option.{option_cmp, option_copied, option_eq, option_map_or, option_or}
pub use Rattle.std.specs.Ordering.{as_partial_cmp, eq_by_cmp, eq_of_both, nat_cmp, on, then_cmp}
pub use Rattle.std.specs.Prelude.{All, Bool, Contains, Err, IsTrue, List, None, Ok, OnOk, Option, Result, Some, [], codes, count_by, drop, encode_utf8, false, filter, flat_map, fold, is_some, length, map, nat_eq, nat_lt, not, refl, take, true, ℕ, ⊤}
pub use Rattle.std.specs.declared.cmp.Ordering.{Ordering}
