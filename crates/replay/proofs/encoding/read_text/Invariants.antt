use Rattle.std.proofs.Common.{length, string_bytes}
use Rattle.std.specs.Str.Iter.{chars_rest}
use Rattle.replay.proofs.Spelling.{ReadTo}
use Rattle.replay.proofs.encoding.read_text.Given as goal

abbrev pub invariant-loop-mark : goal.invariant-loop-mark
invariant-loop-mark l = ReadTo l.word (string_bytes l.text) (chars_rest l.marks)

abbrev pub decreases-loop-mark : goal.decreases-loop-mark
decreases-loop-mark l = length (chars_rest l.marks)
