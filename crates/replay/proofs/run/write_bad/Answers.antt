use Rattle.std.proofs.Common.{subst, sym}
use Rattle.std.proofs.lemmas.Result.{on_ok_weaker}
use Rattle.replay.specs.Replay.{IsOneLine}
use Rattle.replay.proofs.Replies.{bad_line}
use Rattle.replay.proofs.run.write_bad.Goals as goal

pub returns : goal.returns
returns g c =
    on_ok_weaker c.write-3.result
    (λ end. bad_line (g.W.Write.contents c.args.writer.now) (g.W.Write.contents c.write.new.writer) (g.W.Write.contents c.write-2.new.writer) (g.W.Write.contents c.write-3.new.writer) c.as_bytes.result.now
    c.in_ok-write.ensures c.in_ok-write-2.ensures end (subst IsOneLine (sym c.as_bytes.ensures.value) c.reason.ensures))
    c.write-3.ensures
