use Rattle.std.specs.Prelude.{◌++◌, ◌≡◌}
use Rattle.bpaf_items.proofs.Words.{drop, map, items_of_type, given_from, entry_at}
use Rattle.bpaf_items.proofs.meta_help.groups.given.Given as goal

abbrev pub invariant-loop-entry : goal.invariant-loop-entry
invariant-loop-entry g l = record { kept : map entry_at l.members.items ++ map entry_at (given_from entry_at l.state l.fn.ty (drop l.entry-index l.outside)) ≡ items_of_type (map entry_at l.outside) l.fn.ty }
