use Rattle.std.proofs.Common.{ap, not, sym, ◌∙◌}
use Rattle.description.specs.View.{command_said}
use Rattle.description_usage.specs.Usage.{is_shown_command}
use Rattle.description_usage.proofs.LevelParts.{none_yet, one_passes, shown_there}
use Rattle.description_usage.proofs.usage.shows_command.Goals as goal

pub returns-then-not-command : goal.returns-then-not-command
returns-then-not-command g c =
    sym (one_passes command_said is_shown_command c.args.commands.now c.loop-command.command-index c.command-item.result c.command-item.is c.loop-command-test.true (shown_there c.command-item.result ∙ ap not c.if-not-command.true))

pub loop-command-preserved : goal.loop-command-preserved
loop-command-preserved g c =
    none_yet command_said c.args.commands.now c.loop-command.command-index c.command-item.result c.command-item.is c.loop-command-test.true is_shown_command (shown_there c.command-item.result ∙ ap not c.if-not-command.false) c.loop-command.invariant
