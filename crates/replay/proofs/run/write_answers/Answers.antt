use Rattle.std.proofs.Common.{◌∙◌, sym}
use Rattle.replay.proofs.Replies.{answered_none}
use Rattle.replay.proofs.run.write_answers.Goals as goal

pub returns-then-is_passed_over : goal.returns-then-is_passed_over
returns-then-is_passed_over g c = answered_none c.args.line.now (g.W.Write.contents c.args.writer.now) (sym c.is_passed_over.ensures ∙ c.if-is_passed_over.true)
