use Rattle.description_pages.proofs.Seen.{ordered_key_seen}
use Rattle.description_pages.proofs.once.is_new.Goals as goal

pub returns : goal.returns
returns g c = λ before seen.
    ordered_key_seen g.K.PartialEq.eq g.met.K.Eq.laws g.K.Ord.cmp g.met.K.Ord.matches_eq c.args.seen.now.keys c.insert.new.self.keys before c.args.key _ seen c.in_ok-insert.ensures.added c.in_ok-insert.ensures.updates.0
