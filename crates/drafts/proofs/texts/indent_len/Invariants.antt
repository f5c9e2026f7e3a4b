use Rattle.std.proofs.Common.{◌≡◌, ◌+◌, ◌-◌, ◌≤◌, drop, length}
use Rattle.std.specs.List.{prefix_len}
use Rattle.help_fronts.specs.Bytes.{is_blank}
use Rattle.drafts.proofs.texts.indent_len.Given as goal

abbrev pub invariant-loop-len : goal.invariant-loop-len
invariant-loop-len l = record {
  in_range : l.len ≤ length l.line;
  passed : l.len + prefix_len is_blank (drop l.len l.line) ≡ prefix_len is_blank l.line;
}

abbrev pub decreases-loop-len : goal.decreases-loop-len
decreases-loop-len l = length l.line - l.len
