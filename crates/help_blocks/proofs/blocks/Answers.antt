use Rattle.std.proofs.Common.{arith, ap, length, length-drop}
use Rattle.help_blocks.proofs.Read.{follow-to, read-all, read-none, read-step}
use Rattle.help_blocks.proofs.blocks.Goals as goal

pub loop-number-init : goal.loop-number-init
loop-number-init g c = record {
  room = omega arith;
  here_is = c.first_shape-here.ensures;
  so_far = read-none _ _ _ c.start-place.ensures c.new-found.ensures.items;
}

pub loop-number-preserved : goal.loop-number-preserved
loop-number-preserved g c = record {
  room = omega (arith, ap length c.below-rest.ensures, length-drop 1 c.loop-number.rest.now);
  here_is = c.first_shape-next.ensures;
  so_far = read-step (λ line. line.now) _ c.loop-number.rest.now c.below-rest.result.now c.loop-number.here c.first_shape-next.result c.begun-begun.result
      c.loop-number.place c.after-place.result c.loop-number.found.items c.put.new.found.items c.loop-number.number
      c.loop-number.invariant.so_far (omega arith) c.below-rest.ensures c.loop-number.invariant.here_is c.first_shape-next.ensures c.begun-begun.ensures c.after-place.ensures c.in_ok-put.ensures;
}

pub returns : goal.returns
returns g c = record {
  begun = read-all (λ line. line.now) c.args.lines.now c.loop-number.rest.now c.loop-number.place c.loop-number.found.items c.loop-number.number (omega arith) c.loop-number.invariant.so_far;
  whole = follow-to 0 c.loop-number.number (length c.args.lines.now) c.loop-number.found.items (omega arith) c.loop-number.invariant.so_far.follow;
}
