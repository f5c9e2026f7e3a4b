use Rattle.std.specs.Prelude.{◌++◌, ◌+◌, ◌≡◌, ◌≤◌}
use Rattle.bpaf_doc.proofs.lemmas.Buffer.Words.{length, map, take, vec_len, vec_capacity, moved}
use Rattle.bpaf_doc.proofs.buffer.push_moved.Given as goal

abbrev pub invariant-loop-part : goal.invariant-loop-part
invariant-loop-part g l = record {
  in_range : l.part-index ≤ length l.more;
  items : l.ends.items ≡ l.fn.ends.items ++ map (moved l.from l.to) (take l.part-index l.more);
  len : vec_len l.ends ≡ vec_len l.fn.ends + l.part-index;
  capacity : vec_capacity l.ends ≡ vec_capacity l.fn.ends;
}
