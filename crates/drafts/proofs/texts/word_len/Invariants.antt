use Rattle.std.proofs.Common.{◌≡◌, ◌+◌, ◌≤◌, drop, length}
use Rattle.std.specs.List.{prefix_len}
use Rattle.drafts.specs.Texts.{is_no_blank}
use Rattle.drafts.proofs.texts.word_len.Given as goal

abbrev pub invariant-loop-index : goal.invariant-loop-index
invariant-loop-index l = record {
  in_range : l.index ≤ length l.text;
  passed : l.index + prefix_len is_no_blank (drop l.index l.text) ≡ prefix_len is_no_blank l.text;
}
