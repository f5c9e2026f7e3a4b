use Rattle.std.proofs.Common.{refl, sym}
use Rattle.json_of_descriptions.specs.Fields.{is_nothing}
use Rattle.json_of_descriptions.proofs.Usual.{all_words, usual_all, usual_next, usual_stops}
use Rattle.json_of_descriptions.proofs.words.are_usual.Goals as goal

pub loop-row-preserved : goal.loop-row-preserved
loop-row-preserved c = usual_next c.args.rows.now c.loop-row.row-index _ _ c.loop-row-test.true refl (is_nothing (all_words c.args.rows.now)) (sym c.if-ne.ensures) c.loop-row.invariant

pub returns : goal.returns
returns c = usual_all c.args.rows.now c.loop-row.row-index (is_nothing (all_words c.args.rows.now)) c.loop-row-test.false c.loop-row.invariant

pub returns-then-ne : goal.returns-then-ne
returns-then-ne c = usual_stops c.args.rows.now c.loop-row.row-index _ _ c.loop-row-test.true refl (is_nothing (all_words c.args.rows.now)) (sym c.if-ne.ensures) c.loop-row.invariant
