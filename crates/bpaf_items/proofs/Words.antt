-- The words of std, of the crates below and of `specs/` that two proofs or more cite, passed on from one place.
pub use Rattle.bpaf_doc.specs.Buffer.Equality.{same_text}
pub use Rattle.bpaf_doc.specs.Buffer.Parts.{IsWellNested, Part, nothing}
pub use Rattle.bpaf_doc.specs.Buffer.Writes.{Write, doc_writes, document_of, em_doc_writes, end, inside, literal, path_writes, plain, start, text, with_text, with_write, with_writes}
pub use Rattle.bpaf_doc.specs.declared.buffer.Style.{Style}
pub use Rattle.bpaf_items.specs.Listing.Falls.{Placed, destination, group, group_destination, group_members, has_key_of, heading_after, heading_destination, heading_members, is_adjacent_mark, is_adjacent_start, is_adjacent_stop, is_given, is_given_after, is_group, is_group_end, is_group_mark, is_group_open, is_group_start, is_heading, is_in_group, ends_in_mark_or_new, is_mark, is_mark_or_new, is_shown, items_of_type, lacks_help, last_that, nowhere, outside_groups, placed, placed_after, same_type, shown_entries, shown_places, type_of}
pub use Rattle.bpaf_items.specs.Listing.Groups.{GroupsAreTakenOut, HasFirstGroup, HasNoGroup, HasNoGroupMark, HasPairedGroups, both_places, empty, find_group, kept_entries, outer, stays, whole}
pub use Rattle.bpaf_items.specs.Listing.ItemList.{Entry, IsItemList, adjacent_start, adjacent_stop, entries_of, entries_of_parts, entry_of_item, first_front_type, front_type, group_end, group_start, item_entries, item_list, listed, note, if_typed}
pub use Rattle.bpaf_items.specs.Listing.Keys.{Key, entry_key, key_cmp, key_of, same_key}
pub use Rattle.bpaf_items.specs.Listing.ListLaws.{FallsSomewhere, FallsUnderWritten, HeadingsAgree, IsInNoAdjacentBlock, KeyOnce}
pub use Rattle.bpaf_items.specs.Page.EntryWrites.{argument_env_text, body, command_writes, entry_writes, env_body, env_term, env_text, env_writes, flag_env_text, help_writes, listed_writes, names_writes, term}
pub use Rattle.bpaf_items.specs.Page.EnvTexts.{Texts, TextsAreInserted, texts_in, texts_with}
pub use Rattle.bpaf_items.specs.Page.HelpPage.{doc_within, group_members_writes, groups_writes, heading_writes, three_headings_writes, help_page_writes, list_writes, usage_line_writes}
pub use Rattle.bpaf_items.specs.Page.NestedTexts.{EachHasNestedTexts, GroupsAreNested, HasNestedEntry, HasNestedHead, HasNestedText, HasNestedTexts, HelpPagesAreNested, IsNestedText, ItemListsAreNested, KeepsNested}
pub use Rattle.bpaf_items.specs.Page.Steps.Groups.{Takes, group_len, heading_end, len_through, title_front}
pub use Rattle.bpaf_items.specs.Page.Steps.Pages.{footer_writes, front_writes, shown_text, usage_start}
pub use Rattle.bpaf_items.specs.Page.Steps.Pieces.{Leaves, joined, piece_writes, pieces_write}
pub use Rattle.bpaf_items.specs.Page.Steps.Repeats.{AreApart, AreHashed, Hashed, IsHashed, PutsKey, Remembers, entry_hash, has_key, key_hash, shown_writes}
pub use Rattle.bpaf_items.specs.Steps.Given.{given_from, is_given_in, is_given_within, is_listed, state_after}
pub use Rattle.bpaf_items.specs.Steps.Growth.{IsFront}
pub use Rattle.bpaf_items.specs.View.{entry_at, entry_of, key_in}
pub use Rattle.bpaf_items.specs.declared.meta_help.entry.HiTy.{HiTy}
pub use Rattle.bpaf_meta.proofs.lemmas.Usage.Written.{Grows-by, Grows-call, Grows-then, OnOk-map, with_text_twice, with_writes-append}
pub use Rattle.bpaf_meta.specs.Content.{Head, Leaf, Name, Tree, Trees, adjacent, and_of, any, argument, both, command, custom_usage, flag, head, item, many, no_trees, optional, or_of, positional, required, skip, strict, subsection, suffix, tree}
pub use Rattle.bpaf_meta.specs.Usage.Writes.{metavar_writes, usage_writes}
pub use Rattle.bpaf_meta.specs.View.{head_of, text_of, tree_of, trees_of}
pub use Rattle.std.proofs.Common.{Bool, Box, List, String, [], add-one, ap, append-nil, append_assoc, arith, codes, drop, encode_utf8, false, flat_map, get_or, inl, inr, length, map, not, refl, rules, string_bytes, subst, suc, sym, take, take_all, true, zero, ℕ, ◌∙◌}
pub use Rattle.std.proofs.Math.Bool.{and-false, and-true, or-false, or-true}
pub use Rattle.std.proofs.Math.Seq.{drop-append_seam, get_or-append_seam, set-append_seam, take-append_seam}
pub use Rattle.std.proofs.lemmas.Bool.{eq-eqb, eqb-true, false_from_ne_true, le-ltb, lt-ltb, ne_eqb, or_parts}
pub use Rattle.std.proofs.lemmas.Grind.{common_steps, flat_map-append}
pub use Rattle.std.proofs.lemmas.Iterator.{YieldsList-from_slice}
pub use Rattle.std.proofs.lemmas.Iterator.Search.{position_from_yields_List}
pub use Rattle.std.proofs.lemmas.List.{append_cancel_left, at_drop_more, drop-append-le, drop-map, drop_all, drop_more, length-append, length-map, length-set, map-append, reverse-append, set-append_left, take-append-drop, take-map, take_more}
pub use Rattle.std.proofs.lemmas.List.Elements.{All-append, All-cons, All-filter, All-head, All-map, All-nil, All-push, All-same, All-tail, filter-append}
pub use Rattle.std.proofs.lemmas.List.Folds.{list_any-append}
pub use Rattle.std.proofs.lemmas.List.Sums.{get_or-le-sum_by, sum_by-append, sum_by-cons, sum_by_push}
pub use Rattle.std.specs.BTreeMap.{BTreeMap, Updates, get_by_text, is_at}
pub use Rattle.std.specs.Borrow.{Bor}
pub use Rattle.std.specs.List.{AllByRecursion, IsDistinct, after_last, dedup, dedup_from, last_or, list_any, position, position_or_len, prefix_len, range_with_len, swap_remove}
pub use Rattle.std.specs.Option.{option_copied, option_map, option_map_or, option_or}
pub use Rattle.std.specs.Ordering.{is_eq, match_ordering, nat_cmp, ordering_then}
pub use Rattle.std.specs.Prelude.{All, Contains, Err, IfOk, IsTrue, None, Ok, OnErr, OnOk, Option, Result, Some, cond, count_by, filter, fold, nat_eq, nat_lt, slice_set}
pub use borrow.Author.Tests.{tests}
