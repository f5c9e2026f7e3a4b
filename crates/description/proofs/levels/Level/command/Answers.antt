use Rattle.description.proofs.Views.{after_err, command_pushed, commands_kept}
use Rattle.description.proofs.levels.Level.command.Goals as goal

pub returns-in_err-push-clause-err : goal.returns-in_err-push-clause-err
returns-in_err-push-clause-err g c = after_err _ _ (commands_kept c.args.self.now c.push.new.self c.in_err-push.ensures.items)

pub returns-clause-ok : goal.returns-clause-ok
returns-clause-ok g c = command_pushed c.args.self.now c.push.new.self c.args.command c.in_ok-push.ensures.items
