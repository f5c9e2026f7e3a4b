use Rattle.std.proofs.Common.{◌∙◌, sym}
use Rattle.std.proofs.lemmas.Result.{on_ok_weaker}
use Rattle.replay.proofs.Replies.{last_none, last_one}
use Rattle.replay.proofs.run.last_reply.Goals as goal

pub returns-then-is_empty : goal.returns-then-is_empty
returns-then-is_empty g c = last_none c.args.line.now (g.W.Write.contents c.args.writer.now) (sym c.is_empty.ensures ∙ c.if-is_empty.true)

pub returns : goal.returns
returns g c =
    on_ok_weaker c.reply.result
    (last_one c.args.line.now (g.W.Write.contents c.args.writer.now) (g.W.Write.contents c.reply.new.writer) (sym c.is_empty.ensures ∙ c.if-is_empty.false) c.requires)
    c.reply.ensures
