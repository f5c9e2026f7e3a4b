use Rattle.std.proofs.Common.{string_bytes}
use Rattle.std.specs.Str.Iter.{chars_rest}
use Rattle.replay.proofs.Spelling.{read_whole}
use Rattle.replay.proofs.encoding.read_text.Goals as goal

pub returns : goal.returns
returns c = read_whole c.args.word.now (string_bytes c.loop-mark.text) (chars_rest c.loop-mark.marks) c.in_default.ensures.steps.0.0 c.loop-mark.invariant
