use Rattle.std.proofs.Common.{[], ◌∷◌, sym, ◌∙◌}
use Rattle.page_model.proofs.Refused.{first_seen, more_seen}
use Rattle.page_model.proofs.permitted.refused_in_texts.Goals as goal

pub returns-then-is_some : goal.returns-then-is_some
returns-then-is_some c = first_seen (λ text. text ∷ []) (λ text. text.now) c.args.texts.now c.loop-one.one-index _ c.refused-found.result c.loop-one-test.true c.loop-one.invariant c.refused-found.ensures (sym c.is_some.ensures ∙ c.if-is_some.true)

pub loop-one-preserved : goal.loop-one-preserved
loop-one-preserved c = more_seen (λ text. text ∷ []) (λ text. text.now) c.args.texts.now c.loop-one.one-index _ c.refused-found.result c.loop-one-test.true c.loop-one.invariant c.refused-found.ensures (sym c.is_some.ensures ∙ c.if-is_some.false)
