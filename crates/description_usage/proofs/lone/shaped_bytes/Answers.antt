use Rattle.std.proofs.Common.{◌≡◌, ◌+◌, ◌-◌, ◌<◌, ◌++◌, ◌∷◌, [], suc, length, reverse, arith, ap, ◌∙◌}
use Rattle.description_usage.proofs.Shaped.{levels_long, low_first, lowest_more, shaped_first, shaped_more}
use Rattle.description_usage.proofs.lone.shaped_bytes.Goals as goal

pub loop-at-init : goal.loop-at-init
loop-at-init g c = record { in_range = omega arith; low = low_first c.args.bytes.now; put = ap reverse c.in_ok-out.ensures.items ∙ shaped_first c.args.bytes.now }

pub bounds-levels-at : goal.bounds-levels-at
bounds-levels-at g c = omega (arith, levels_long c.args.bytes.now c.args.levels.now c.requires)

pub bounds-levels-at-in-loop-at : goal.bounds-levels-at-in-loop-at
bounds-levels-at-in-loop-at g c = omega (arith, levels_long c.args.bytes.now c.args.levels.now c.requires)

pub offset_bounds-levels-at : goal.offset_bounds-levels-at
offset_bounds-levels-at g c = omega (arith, levels_long c.args.bytes.now c.args.levels.now c.requires)

pub offset_bounds-levels-at-in-loop-at : goal.offset_bounds-levels-at-in-loop-at
offset_bounds-levels-at-in-loop-at g c = omega (arith, levels_long c.args.bytes.now c.args.levels.now c.requires)

pub loop-at-preserved : goal.loop-at-preserved
loop-at-preserved g c =
    let at = c.loop-at.at in
    let i = at - 1 in
    let within : i < length c.args.bytes.now = omega arith in
    let small : i < 18446744073709551615 = omega arith in
    let whole : at ≡ suc i = omega arith in
    let after : i + 1 ≡ suc i = omega arith in
    record {
      in_range = omega arith;
      low = lowest_more c.args.bytes.now c.args.levels.now c.requires i c.loop-at.lowest within small at (i + 1) c.min-lowest.result whole after c.loop-at.invariant.low c.min-lowest.ensures;
      put =
          shaped_more c.args.bytes.now c.args.levels.now c.requires i c.loop-at.lowest within small at (i + 1) whole after c.loop-at.invariant.low c.loop-at.out.items c.push.new.self.items c.loop-at.invariant.put
          (c.in_ok-push.ensures.items ∙ ap (λ b. c.loop-at.out.items ++ b ∷ []) c.shaped_byte.ensures);
    }
