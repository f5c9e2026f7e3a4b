use Rattle.std.proofs.Common.{map}
use Rattle.help_differences.specs.View.{name_said}
use Rattle.help_differences.proofs.Levels.{level_put}
use Rattle.help_differences.proofs.level.push_level.Goals as goal

pub returns : goal.returns
returns g c =
    level_put c.args.level.now c.as_slice.result.now c.as_slice-2.result.now c.as_slice-3.result.now c.as_slice-4.result.now (map name_said c.args.names.now.items) (map name_said c.push_groups.new.names.items) (map name_said c.push_options.new.names.items) (map name_said c.push_choices.new.names.items) (map name_said c.push_commands.new.names.items)
    c.as_slice.ensures.value c.as_slice-2.ensures.value c.as_slice-3.ensures.value c.as_slice-4.ensures.value c.in_ok-push_groups.ensures c.in_ok-push_options.ensures c.in_ok-push_choices.ensures c.in_ok-push_commands.ensures
