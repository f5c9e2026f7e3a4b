use Rattle.std.proofs.Common.{map, rules}
use Rattle.drafts.specs.View.{free_said, held}
use Rattle.drafts.proofs.Fronts.{fronts_done, fronts_more}
use Rattle.drafts.proofs.free.free_in.Goals as goal

pub returns-in_default : goal.returns-in_default
returns-in_default g c = fronts_done c.in_ok-front.field-0 (held c.args.taken.now) (held c.loop-most.seen) (map free_said c.loop-most.found.items) c.loop-most.most c.loop-most.rest.now _
    (search rules) c.in_ok-front.ensures.exact c.loop-most.invariant.so_far

pub loop-most-preserved : goal.loop-most-preserved
loop-most-preserved g c = record {
  utf8 = search rules;
  so_far = fronts_more c.in_ok-front.field-0 c.in-Some.front (held c.args.taken.now) (held c.loop-most.seen) (held c.free_front.new.seen) c.in_ok-free_front.field-0 c.loop-most.found.items c.push.new.self.items c.loop-most.most
      c.loop-most.rest.now c.next_text-rest.result.now _
      c.loop-most-test.true (search rules) c.in_ok-front.ensures.exact c.next_text-rest.ensures c.in_ok-free_front.ensures.free c.in_ok-free_front.ensures.seen c.in_ok-push.ensures.items c.loop-most.invariant.so_far;
}
