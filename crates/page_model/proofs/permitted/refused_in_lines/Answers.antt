use Rattle.std.proofs.Common.{sym, ◌∙◌, ap}
use Rattle.page_model.specs.Permitted.{line_texts, refused_in}
use Rattle.page_model.specs.View.{line_of}
use Rattle.page_model.proofs.Refused.{first_seen, items_of, more_seen}
use Rattle.page_model.proofs.permitted.refused_in_lines.Goals as goal

pub returns-then-is_some : goal.returns-then-is_some
returns-then-is_some g c = first_seen line_texts (λ line. line_of line.items) c.args.lines.now c.loop-one.one-index _ c.refused_in_line-found.result c.loop-one-test.true c.loop-one.invariant (c.refused_in_line-found.ensures ∙ ap (λ inner. refused_in (line_texts (line_of inner))) (c.as_slice.ensures.value ∙ ap items_of c.one-item.is)) (sym c.is_some.ensures ∙ c.if-is_some.true)

pub loop-one-preserved : goal.loop-one-preserved
loop-one-preserved g c = more_seen line_texts (λ line. line_of line.items) c.args.lines.now c.loop-one.one-index _ c.refused_in_line-found.result c.loop-one-test.true c.loop-one.invariant (c.refused_in_line-found.ensures ∙ ap (λ inner. refused_in (line_texts (line_of inner))) (c.as_slice.ensures.value ∙ ap items_of c.one-item.is)) (sym c.is_some.ensures ∙ c.if-is_some.false)
