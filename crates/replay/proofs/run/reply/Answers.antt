use Rattle.std.proofs.Common.{[], ◌∷◌, ◌++◌, append_assoc, subst}
use Rattle.std.proofs.KnownBytes.{Appends-trans}
use Rattle.std.proofs.lemmas.Result.{on_ok_weaker}
use Rattle.std.specs.Io.KnownBytes.{Appends}
use Rattle.replay.proofs.run.reply.Goals as goal

pub returns : goal.returns
returns g c =
    let a = g.W.Write.contents c.args.writer.now in
    let b = g.W.Write.contents c.write.new.writer in
    let d = g.W.Write.contents c.write-2.new.writer in
    let e = g.W.Write.contents c.write_answers.new.writer in
    let line = c.args.line.now in
    on_ok_weaker c.write_answers.result
    (λ h. (h.0, h.1, subst (Appends a e) (append_assoc line (10 ∷ []) h.0) (Appends-trans a d e (line ++ 10 ∷ []) h.0 (Appends-trans a b d line (10 ∷ []) c.in_ok-write.ensures c.in_ok-write-2.ensures) h.2)))
    c.write_answers.ensures
