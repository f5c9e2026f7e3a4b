use Rattle.std.proofs.Common.{◌∙◌, ◌-◌, ap, length, sym, take}
use Rattle.std.proofs.lemmas.Result.{on_ok_weaker}
use Rattle.std.specs.List.{list_any}
use Rattle.replay.specs.Replay.{is_newline}
use Rattle.replay.proofs.Replies.{goes_on-line, replays-end}
use Rattle.replay.proofs.run.run.Goals as goal

pub loop-preserved : goal.loop-preserved
loop-preserved g c =
    let line = c.read_until.new.buf.items in
    goes_on-line (g.R.Read.remaining c.args.reader.now) (g.R.Read.remaining c.loop.reader) (g.R.Read.remaining c.read_until.new.self) (g.W.Write.contents c.args.writer.now) (g.W.Write.contents c.loop.writer)
    (g.W.Write.contents c.reply.new.writer) c.clear.new.self.items line c.deref-then-has_newline.result.now c.loop.invariant c.clear.ensures.items c.in-Ok.ensures.bytes c.in-Ok.ensures.rest
    (ap (list_any is_newline) (sym c.deref.ensures.value) ∙ sym c.has_newline.ensures ∙ c.if-has_newline.true)
    (c.deref-then-has_newline.ensures.value ∙ c.pop.ensures.rest ∙ ap (λ n. take (n - 1) line) (sym c.deref.ensures.len ∙ ap length c.deref.ensures.value)) c.in_ok-reply.ensures

pub returns-else-has_newline : goal.returns-else-has_newline
returns-else-has_newline g c =
    on_ok_weaker c.last_reply.result
    (replays-end (g.R.Read.remaining c.args.reader.now) (g.R.Read.remaining c.loop.reader) (g.R.Read.remaining c.read_until.new.self) (g.W.Write.contents c.args.writer.now) (g.W.Write.contents c.loop.writer)
    (g.W.Write.contents c.last_reply.new.writer) c.clear.new.self.items c.read_until.new.buf.items c.loop.invariant c.clear.ensures.items c.in-Ok.ensures.bytes c.in-Ok.ensures.rest
    (ap (list_any is_newline) (sym c.deref.ensures.value) ∙ sym c.has_newline.ensures ∙ c.if-has_newline.false))
    (rw c.deref-else-has_newline.ensures.value at c.last_reply.ensures)
