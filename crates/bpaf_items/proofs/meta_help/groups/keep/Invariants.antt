use Rattle.std.specs.Prelude.{◌++◌, ◌≡◌, ◌≤◌}
use Rattle.bpaf_items.proofs.Words.{length, map, take, is_adjacent_start, is_adjacent_stop, kept_entries, entry_at, entry_of}
use Rattle.bpaf_items.proofs.Listing.Pushes.{since_start}
use Rattle.bpaf_items.proofs.meta_help.groups.keep.Given as goal

abbrev pub invariant-loop-entry : goal.invariant-loop-entry
invariant-loop-entry g l = record {
  in_range : l.entry-index ≤ length l.entries;
  few_starts : l.depth.starts ≤ l.entry-index;
  few_stops : l.depth.stops ≤ l.entry-index;
  starts : l.depth.starts ≡ since_start is_adjacent_start (map entry_of (take l.entry-index l.entries));
  stops : l.depth.stops ≡ since_start is_adjacent_stop (map entry_of (take l.entry-index l.entries));
  kept : map entry_at l.members.items ≡ map entry_at l.fn.members.items ++ kept_entries (map entry_of (take l.entry-index l.entries));
}
