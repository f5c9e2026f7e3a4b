use Rattle.std.specs.Prelude.{◌≡◌, ◌≤◌}
use Rattle.bpaf_items.proofs.Words.{length, map, take, with_writes, texts_in, list_writes, Remembers, entry_at}
use Rattle.bpaf_items.proofs.meta_help.writes.Writer.put_list.Given as goal

abbrev pub invariant-loop-entry : goal.invariant-loop-entry
invariant-loop-entry g l = record {
  in_range : l.entry-index ≤ length l.entries;
  written : l.doc ≡ with_writes l.fn.doc (list_writes l.self.include_env (texts_in l.self.texts.now) (map entry_at (take l.entry-index l.entries)));
  remembers : Remembers (map entry_at l.entries) l.repeats.are_apart l.repeats.keys.keys l.repeats.shown (map entry_at (take l.entry-index l.entries));
}
