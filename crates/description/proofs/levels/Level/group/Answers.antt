use Rattle.description.proofs.Views.{after_err, group_pushed, groups_kept}
use Rattle.description.proofs.levels.Level.group.Goals as goal

pub returns-in_err-push-clause-err : goal.returns-in_err-push-clause-err
returns-in_err-push-clause-err g c = after_err _ _ (groups_kept c.args.self.now c.push.new.self c.in_err-push.ensures.items)

pub returns-clause-ok : goal.returns-clause-ok
returns-clause-ok g c = group_pushed c.args.self.now c.push.new.self c.args.group c.in_ok-push.ensures.items
