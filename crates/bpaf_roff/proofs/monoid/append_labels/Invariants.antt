use Rattle.std.proofs.Common.{◌≡◌, ◌+◌, ◌≤◌, length, take, vec_len, vec_capacity}
use Rattle.bpaf_roff.specs.Steps.Labels.{EndsInClones}
use Rattle.bpaf_roff.proofs.monoid.append_labels.Given as goal

abbrev pub invariant-loop-next : goal.invariant-loop-next
invariant-loop-next g l = record {
  in_range : l.next-index ≤ length l.more;
  items : EndsInClones g.T.Clone.is_clone l.fn.labels.items (take l.next-index l.more) l.shift l.labels.items;
  count : l.count ≡ length l.fn.labels.items;
  room : vec_len l.labels + length l.more ≤ vec_capacity l.labels + l.next-index;
}
