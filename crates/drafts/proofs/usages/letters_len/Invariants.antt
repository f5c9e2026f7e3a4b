use Rattle.std.proofs.Common.{◌≡◌, ◌+◌, ◌≤◌, drop, length}
use Rattle.std.specs.Char.{is_ascii_alphabetic}
use Rattle.std.specs.List.{prefix_len}
use Rattle.drafts.proofs.usages.letters_len.Given as goal

abbrev pub invariant-loop-index : goal.invariant-loop-index
invariant-loop-index l = record {
  in_range : l.index ≤ length l.text;
  passed : l.index + prefix_len is_ascii_alphabetic (drop l.index l.text) ≡ prefix_len is_ascii_alphabetic l.text;
}
