use Rattle.std.specs.Prelude.{◌+◌}
use Rattle.bpaf_items.proofs.Words.{rules, map, take, is_adjacent_start, is_adjacent_stop, is_group_start, entry_at, entry_of}
use Rattle.bpaf_items.proofs.Page.GroupSteps.{few, kept_next, since_next}
use Rattle.bpaf_items.proofs.Page.Leaving.{map_next}
use Rattle.bpaf_items.proofs.meta_help.groups.keep.Goals as goal

pub loop-entry-preserved : goal.loop-entry-preserved
loop-entry-preserved g c =
    let es = c.args.entries.now in
    let i = c.loop-entry.entry-index in
    let e = entry_of c.entry-item.result in
    let before = map entry_of (take i es) in
    let next = map entry_of (take (i + 1) es) in
    let known = c.loop-entry.invariant in
    let d = c.loop-entry.depth in
    let after = c.after-depth in
    let more = map_next entry_of es i c.entry-item.result (search rules) c.entry-item.is in
    record {
      in_range = search rules;
      few_starts = few (is_group_start e) (is_adjacent_start e) d.starts after.result.starts i after.ensures.starts known.few_starts;
      few_stops = few (is_group_start e) (is_adjacent_stop e) d.stops after.result.stops i after.ensures.stops known.few_stops;
      starts = since_next is_adjacent_start before next e d.starts after.result.starts after.ensures.starts known.starts more;
      stops = since_next is_adjacent_stop before next e d.stops after.result.stops after.ensures.stops known.stops more;
      kept = kept_next (map entry_at c.args.members.now.items) (map entry_at c.loop-entry.members.items) (map entry_at c.push_if.new.members.items) before next e d.starts d.stops c.keeps.result c.in_ok-push_if.ensures c.keeps.ensures known.kept known.starts known.stops more;
    }
