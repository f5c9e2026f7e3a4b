use Rattle.std.specs.Prelude.{◌≡◌}
use Rattle.bpaf_items.proofs.Words.{map, take, flat_map, entry_hash, entry_at}
use Rattle.bpaf_items.proofs.meta_help.repeats.are_apart.Given as goal

abbrev pub invariant-loop-entry : goal.invariant-loop-entry
invariant-loop-entry g l = l.hashes.items ≡ flat_map entry_hash (map entry_at (take l.entry-index l.entries))
