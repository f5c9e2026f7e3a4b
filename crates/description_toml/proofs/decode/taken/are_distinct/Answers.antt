use Rattle.description_toml.proofs.Distinct.{repeated_here, seen_more}
use Rattle.description_toml.proofs.decode.taken.are_distinct.Goals as goal

pub returns-then-not-branch : goal.returns-then-not-branch
returns-then-not-branch g c = repeated_here c.loop-text.seen.keys c.args.texts.now c.loop-text.text-index _ c.in_ok-insert.field-0 c.loop-text-test.true c.loop-text.invariant c.in_ok-insert.ensures.added c.if-not-branch.true

pub loop-text-preserved : goal.loop-text-preserved
loop-text-preserved g c = seen_more c.loop-text.seen.keys c.insert.new.self.keys c.args.texts.now c.loop-text.text-index _ c.in_ok-insert.field-0 c.loop-text-test.true c.loop-text.invariant c.in_ok-insert.ensures.added c.if-not-branch.false c.in_ok-insert.ensures.updates.0
