use Rattle.std.proofs.Common.{◌<◌, arith, refl, sym, vec_len}
use Rattle.help_blocks.proofs.Read.{set-last}
use Rattle.help_blocks.proofs.cut.lengthen.Goals as goal

pub returns-in-Some : goal.returns-in-Some
returns-in-Some g c =
    let some : 0 < vec_len c.args.found.now = c.in-Some.ensures.variant.0 refl in
    set-last c.args.found.now.items _ c.in-Some.last.now c.args.end (omega (arith, c.args.found.now.ok.0)) (sym c.in-Some.ensures.value)
