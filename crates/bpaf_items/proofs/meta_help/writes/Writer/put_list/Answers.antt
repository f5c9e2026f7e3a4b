use Rattle.std.specs.Prelude.{◌+◌}
use Rattle.bpaf_items.proofs.Words.{rules, map, take, sym, subst, drop, Grows-then, Grows-by, texts_in, list_writes, Remembers, entry_at}
use Rattle.bpaf_items.proofs.Page.Leaving.{map_around, map_next}
use Rattle.bpaf_items.proofs.Page.Repeating.{list_next}
use Rattle.bpaf_items.proofs.meta_help.writes.Writer.put_list.Goals as goal

pub returns-in_err-put_next : goal.returns-in_err-put_next
returns-in_err-put_next g c =
    let so_far = Grows-by c.args.doc.now c.loop-entry.doc (list_writes c.args.self.now.include_env (texts_in c.args.self.now.texts.now) (map entry_at (take c.loop-entry.entry-index c.args.entries.now))) c.loop-entry.invariant.written in
    (Grows-then _ _ _ so_far c.put_next.ensures.grows, search rules)

pub loop-entry-preserved : goal.loop-entry-preserved
loop-entry-preserved g c =
    let es = c.args.entries.now in
    let i = c.loop-entry.entry-index in
    let e = entry_at c.entry-item.result in
    let more = map_next entry_at es i c.entry-item.result (search rules) c.entry-item.is in
    let around = map_around entry_at es i c.entry-item.result c.entry-item.result c.entry-item.is (search rules) in
    let done = c.in_ok-put_next.ensures.next (map entry_at es) (map entry_at (take i es)) (map entry_at (drop (i + 1) es)) around c.loop-entry.invariant.remembers in
    record {
      in_range = search rules;
      written = list_next c.args.self.now.include_env (texts_in c.args.self.now.texts.now) (map entry_at (take i es)) (map entry_at (take (i + 1) es)) e c.args.doc.now c.loop-entry.doc c.put_next.new.doc more c.loop-entry.invariant.written done.0;
      remembers = subst (Remembers (map entry_at es) c.put_next.new.repeats.are_apart c.put_next.new.repeats.keys.keys c.put_next.new.repeats.shown) (sym more) done.1;
    }
