use Rattle.std.proofs.Common.{ap, List, ℕ}
use Rattle.bpaf_roff.specs.Roff.{RoffText, piece, with_piece}
use Rattle.bpaf_roff.proofs.lemmas.Written.{piece_on, piece_line_start, piece_utf8}
use Rattle.bpaf_roff.proofs.writer.RoffWriter.put.Goals as goal

pub invariant_of-self : goal.invariant_of-self
invariant_of-self g c =
    let w = c.self.inside in
    let old = w.text.items in
    let new = c.write_piece.new.out.items in
    let p = piece c.args.label c.args.text.now in
    let known = c.self.invariant in
    (piece_line_start w.apostrophes old new p w.at_line_start known.0 c.in-Ok.ensures.ok c.in-Ok.after c.in-Ok.ensures.line_start, piece_utf8 w.apostrophes old new p w.at_line_start known.0 c.in-Ok.ensures.ok known.1 c.utf8.text)

pub returns-in-Ok-clause-ok : goal.returns-in-Ok-clause-ok
unfolding with_piece
returns-in-Ok-clause-ok g c =
    let w = c.self.inside in
    let p = piece c.args.label c.args.text.now in
    let text : List ℕ → RoffText = λ bytes. record { bytes = bytes; apostrophes = w.apostrophes } in
    rw (← c.self.view_is) (ap text (piece_on w.apostrophes w.text.items c.write_piece.new.out.items p w.at_line_start c.self.invariant.0 c.in-Ok.ensures.ok))
