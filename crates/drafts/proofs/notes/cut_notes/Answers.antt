use Rattle.std.proofs.Common.{◌-◌, ◌∙◌, ap, rules}
use Rattle.drafts.specs.Notes.{cut_from}
use Rattle.drafts.specs.View.{note_said}
use Rattle.drafts.proofs.Ends.{cut_done, cut_more, front_front}
use Rattle.drafts.proofs.notes.cut_notes.Goals as goal

pub returns-in_default-clause-value : goal.returns-in_default-clause-value
returns-in_default-clause-value c = cut_done c.loop-most.most c.loop-most.rest.now c.args.text.now _ c.in_default.ensures.value c.loop-most-test.true c.loop-most.invariant.so_far

pub loop-most-preserved : goal.loop-most-preserved
loop-most-preserved c = record {
  utf8 = search rules;
  so_far = ap (cut_from (c.loop-most.most - 1) c.in-Some.before.now) c.with-notes.ensures ∙ cut_more c.loop-most.most c.loop-most.rest.now c.in-Some.before.now c.args.text.now _ (note_said c.in-Some.note) c.in-Some.ensures.value c.loop-most-test.true c.loop-most.invariant.so_far;
  front = front_front c.in-Some.before.now c.loop-most.rest.now c.args.text.now c.in-Some.ensures.front c.loop-most.invariant.front;
}
