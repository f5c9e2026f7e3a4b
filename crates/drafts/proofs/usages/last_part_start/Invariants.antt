use Rattle.std.proofs.Common.{◌≡◌, ◌≤◌, ◌+◌, length, take}
use Rattle.std.specs.List.{suffix_len}
use Rattle.drafts.specs.Usages.{is_no_slash}
use Rattle.drafts.proofs.usages.last_part_start.Given as goal

abbrev pub invariant-loop-start : goal.invariant-loop-start
invariant-loop-start l = record {
  in_range : l.start ≤ length l.text;
  counted : l.start + suffix_len is_no_slash l.text ≡ length l.text + suffix_len is_no_slash (take l.start l.text);
}

abbrev pub decreases-loop-start : goal.decreases-loop-start
decreases-loop-start l = l.start
