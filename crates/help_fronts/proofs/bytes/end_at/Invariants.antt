use Rattle.std.proofs.Common.{◌≡◌, ◌<◌, ◌≤◌, ◌+◌, get_or, length, take, true}
use Rattle.std.specs.List.{suffix_len}
use Rattle.help_fronts.specs.Bytes.{is_in}
use Rattle.help_fronts.proofs.bytes.end_at.Given as goal

abbrev pub invariant-loop-end : goal.invariant-loop-end
invariant-loop-end l = record {
  in_range : l.end ≤ length l.bytes;
  counted : l.end + suffix_len (is_in l.class) l.bytes ≡ length l.bytes + suffix_len (is_in l.class) (take l.end l.bytes);
  passed : l.end < length l.bytes → is_in l.class (get_or l.bytes l.end 0) ≡ true;
}

abbrev pub decreases-loop-end : goal.decreases-loop-end
decreases-loop-end l = l.end
