use Rattle.std.proofs.Common.{[], ◌∷◌, sym, ◌∙◌}
use Rattle.page_model.specs.Permitted.{piece_text}
use Rattle.page_model.specs.View.{piece_of}
use Rattle.page_model.proofs.Refused.{first_seen, more_seen}
use Rattle.page_model.proofs.permitted.refused_in_line.Goals as goal

pub returns-then-is_some : goal.returns-then-is_some
returns-then-is_some c = first_seen (λ piece. piece_text piece ∷ []) piece_of c.args.line.now c.loop-one.one-index _ c.refused_in_piece-found.result c.loop-one-test.true c.loop-one.invariant c.refused_in_piece-found.ensures (sym c.is_some.ensures ∙ c.if-is_some.true)

pub loop-one-preserved : goal.loop-one-preserved
loop-one-preserved c = more_seen (λ piece. piece_text piece ∷ []) piece_of c.args.line.now c.loop-one.one-index _ c.refused_in_piece-found.result c.loop-one-test.true c.loop-one.invariant c.refused_in_piece-found.ensures (sym c.is_some.ensures ∙ c.if-is_some.false)
