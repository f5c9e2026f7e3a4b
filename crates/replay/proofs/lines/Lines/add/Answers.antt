use Rattle.std.proofs.Common.{string_bytes, rules}
use Rattle.replay.proofs.Replies.{added}
use Rattle.replay.proofs.lines.Lines.add.Goals as goal

pub invariant_of-self-2 : goal.invariant_of-self-2
invariant_of-self-2 c =
    added (string_bytes c.self.inside.text) (string_bytes c.in_ok-line.line) _ (string_bytes c.push_str-2.new.self) c.in_ok-line.ensures.0 c.self.invariant c.in_ok-line.ensures.1 (search rules) c.in_ok-push_str.ensures.bytes (search rules)
