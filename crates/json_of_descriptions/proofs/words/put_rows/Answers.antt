use Rattle.std.proofs.Common.{refl}
use Rattle.json_of_descriptions.proofs.Usual.{rows_all, rows_next}
use Rattle.json_of_descriptions.proofs.words.put_rows.Goals as goal

pub loop-row-preserved : goal.loop-row-preserved
loop-row-preserved g c = rows_next c.args.rows.now c.loop-row.row-index _ _ c.loop-row-test.true refl c.loop-row.invariant c.in_ok-put_text_unless.ensures

pub returns : goal.returns
returns g c = rows_all c.args.rows.now c.loop-row.row-index c.loop-row-test.false c.loop-row.invariant
