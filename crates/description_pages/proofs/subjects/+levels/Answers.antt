use Rattle.std.proofs.Common.{map}
use Rattle.std.proofs.lemmas.Result.{on_ok_weaker}
use Rattle.description_pages.specs.LevelsView.{subject_of}
use Rattle.description_pages.proofs.LevelsBelow.{command_put}
use Rattle.description_pages.proofs.subjects.+levels.Goals as goal

pub push_command-returns : goal.push_command-returns
push_command-returns g t c =
    on_ok_weaker c.push_level.result
    (command_put subject_of (subject_of c.args.above) c.in_ok-lower.lower c.args.command.now c.args.found.now.items c.push.new.self.items (map subject_of c.push_level.new.found.items)
    c.if-command.false c.in_ok-lower.ensures c.in_ok-push.ensures.items)
    c.push_level.ensures
