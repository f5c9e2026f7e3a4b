use Rattle.std.proofs.Common.{rules}
use Rattle.lasting_names.proofs.Texts.{each_once, found, kept_already, put, same_text}
use Rattle.lasting_names.proofs.Names.get.Goals as goal

pub returns-in-Some-clause-ok : goal.returns-in-Some-clause-ok
returns-in-Some-clause-ok c = rw (← c.self.view_is) (kept_already _ _ (found c.args.text.now c.self.inside.kept.keys (search rules)))

pub returns-in-Some-clause-once : goal.returns-in-Some-clause-once
returns-in-Some-clause-once c = rw (← c.self.view_is) (each_once c.self.inside.kept.keys c.self.invariant)

pub returns-clause-ok : goal.returns-clause-ok
returns-clause-ok c = rw (← c.self.view_is, ← c.in_ok-name.ensures) (put c.in_ok-name.name c.self.inside.kept.keys c.insert.new.self.keys c.in_ok-insert.ensures.keys)

pub returns-clause-once : goal.returns-clause-once
returns-clause-once c = each_once c.insert.new.self.keys c.in_ok-insert.ensures.ordered

pub returns-in_err-name-clause-once : goal.returns-in_err-name-clause-once
returns-in_err-name-clause-once c = rw (← c.self.view_is) (each_once c.self.inside.kept.keys c.self.invariant)

pub returns-in_err-insert-clause-once : goal.returns-in_err-insert-clause-once
returns-in_err-insert-clause-once c = each_once c.insert.new.self.keys c.in_err-insert.ensures.ordered

pub returns-in-Some-clause-text : goal.returns-in-Some-clause-text
returns-in-Some-clause-text c = same_text c.args.text.now c.in-Some.known.now.now c.in-Some.ensures.same_key
