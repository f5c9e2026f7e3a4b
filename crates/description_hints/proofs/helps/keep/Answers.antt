use Rattle.description_hints.proofs.Firsts.{seen_after}
use Rattle.description_hints.proofs.helps.keep.Goals as goal

pub returns : goal.returns
returns c = seen_after c.args.firsts.now c.insert.new.self c.args.own.name.now c.args.own c.in_ok-insert.ensures.updates
