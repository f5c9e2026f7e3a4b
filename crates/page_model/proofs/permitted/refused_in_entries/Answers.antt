use Rattle.std.proofs.Common.{sym, ◌∙◌, ap}
use Rattle.page_model.specs.Permitted.{entry_texts, refused_in}
use Rattle.page_model.specs.View.{entry_of}
use Rattle.page_model.proofs.Refused.{first_seen, more_seen}
use Rattle.page_model.proofs.permitted.refused_in_entries.Goals as goal

pub returns-then-is_some : goal.returns-then-is_some
returns-then-is_some g c = first_seen entry_texts entry_of c.args.entries.now c.loop-one.one-index _ c.refused_in_entry-found.result c.loop-one-test.true c.loop-one.invariant (c.refused_in_entry-found.ensures ∙ ap (λ one. refused_in (entry_texts (entry_of one))) c.one-item.is) (sym c.is_some.ensures ∙ c.if-is_some.true)

pub loop-one-preserved : goal.loop-one-preserved
loop-one-preserved g c = more_seen entry_texts entry_of c.args.entries.now c.loop-one.one-index _ c.refused_in_entry-found.result c.loop-one-test.true c.loop-one.invariant (c.refused_in_entry-found.ensures ∙ ap (λ one. refused_in (entry_texts (entry_of one))) c.one-item.is) (sym c.is_some.ensures ∙ c.if-is_some.false)
