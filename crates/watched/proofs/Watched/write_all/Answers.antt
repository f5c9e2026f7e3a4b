use Rattle.std.proofs.Common.{◌++◌, take, refl, rules}
use Rattle.std.proofs.KnownBytes.{Appends-trans}
use Rattle.watched.specs.Calls.{none, more}
use Rattle.watched.proofs.Fronts.{front_more}
use Rattle.watched.proofs.Watched.write_all.Goals as goal

pub loop-rest-init : goal.loop-rest-init
loop-rest-init g c = (refl, _, search rules, search rules, none refl refl)

pub loop-rest-preserved : goal.loop-rest-preserved
loop-rest-preserved g c =
    let front = c.loop-rest.invariant.1 in
    let rest = c.loop-rest.rest.now in
    let taken = c.in_ok-taken.taken in (
      search rules,
      front ++ take taken rest,
      front_more c.args.buf.now front rest taken c.loop-rest.invariant.2,
      Appends-trans _ _ _ _ _ c.loop-rest.invariant.3 c.in_ok-taken.ensures.bytes,
      more front c.loop-rest.self.end taken rest c.loop-rest.invariant.4 c.in_ok-taken.ensures.called (search rules) refl,
    )
