use Rattle.description.proofs.Views.{after_err, group_command_pushed, group_commands_kept}
use Rattle.description.proofs.levels.Group.command.Goals as goal

pub returns-in_err-push-clause-err : goal.returns-in_err-push-clause-err
returns-in_err-push-clause-err g c = after_err _ _ (group_commands_kept c.args.self.now c.push.new.self c.in_err-push.ensures.items)

pub returns-clause-ok : goal.returns-clause-ok
returns-clause-ok g c = group_command_pushed c.args.self.now c.push.new.self c.args.member c.in_ok-push.ensures.items
