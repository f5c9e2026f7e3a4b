use Rattle.std.proofs.Common.{◌≡◌, ◌≤◌, length, map, take, string_bytes}
use Rattle.bpaf_roff.specs.Pieces.{with_texts, labelled_text}
use Rattle.bpaf_roff.specs.Steps.Labels.{Cuts, pieces_of, ending_at}
use Rattle.bpaf_roff.proofs.lemmas.Labels.{labelled}
use Rattle.bpaf_roff.proofs.monoid.FreeMonoid.extend.Given as goal

abbrev pub invariant-loop-label : goal.invariant-loop-label
invariant-loop-label g l = record {
  can : (goal.iterator-loop-label g).can_next l.label-iterator;
  finite : (goal.iterator-loop-label g).is_finite l.label-iterator;
  squash : l.self-inside.squash ≡ l.initial.self-inside.squash;
  labels : ending_at l.end (take l.count l.self-inside.labels.items) ≡ l.initial.self-inside.labels.items;
  payload : take l.end (string_bytes l.self-inside.payload) ≡ string_bytes l.initial.self-inside.payload;
  count : l.count ≤ length l.self-inside.labels.items;
  end : l.end ≤ length (string_bytes l.self-inside.payload);
  cuts : Cuts l.self-inside.labels.items 0 (string_bytes l.self-inside.payload);
  pieces : labelled l.self-inside.squash (pieces_of l.self-inside.labels.items 0 (string_bytes l.self-inside.payload)) ≡ with_texts g.T.PartialEq.eq l.fn.self (map labelled_text l.yielded);
}
