use Rattle.std.specs.Prelude.{◌++◌, ◌≡◌}
use Rattle.bpaf_items.proofs.Words.{length, map, with_writes, outside_groups, HasPairedGroups, texts_in, group_members_writes, entry_at, entry_of}
use Rattle.bpaf_doc.specs.Buffer.Growth.{Grows}
use Rattle.bpaf_items.proofs.meta_help.writes.Writer.put_groups.Given as goal

abbrev pub invariant-loop-rest : goal.invariant-loop-rest
invariant-loop-rest g l = record {
  paired : HasPairedGroups (map entry_of l.rest);
  grows : Grows l.fn.doc l.doc;
  written : with_writes l.doc (group_members_writes l.self.include_env (texts_in l.self.texts.now) (map entry_of l.rest)) ≡ with_writes l.fn.doc (group_members_writes l.self.include_env (texts_in l.self.texts.now) (map entry_of l.entries));
  others : map entry_at l.outside.items ++ outside_groups (map entry_of l.rest) ≡ map entry_at l.fn.outside.items ++ outside_groups (map entry_of l.entries);
}

abbrev pub decreases-loop-rest : goal.decreases-loop-rest
decreases-loop-rest g l = length l.rest
