use Rattle.std.proofs.Common.{◌≡◌, ◌≤◌, ◌+◌, length, take}
use Rattle.std.specs.List.{suffix_len}
use Rattle.drafts.specs.Passages.{is_blank}
use Rattle.drafts.proofs.passages.inked_len.Given as goal

abbrev pub invariant-loop-end : goal.invariant-loop-end
invariant-loop-end l = record {
  in_range : l.end ≤ length l.lines;
  counted : l.end + suffix_len (λ line. is_blank line.now) l.lines ≡ length l.lines + suffix_len (λ line. is_blank line.now) (take l.end l.lines);
}

abbrev pub decreases-loop-end : goal.decreases-loop-end
decreases-loop-end l = l.end
