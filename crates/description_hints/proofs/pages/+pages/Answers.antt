use Rattle.std.proofs.Common.{map}
use Rattle.std.proofs.lemmas.Result.{on_ok_weaker}
use Rattle.description_hints.specs.View.{page_site_said}
use Rattle.description_hints.proofs.Alike.{command_put}
use Rattle.description_hints.proofs.pages.+pages.Goals as goal

pub push_command-returns : goal.push_command-returns
push_command-returns g t c =
    on_ok_weaker c.push_below.result
    (command_put c.args.above.now (record { path = c.args.path; name = c.in_ok-name.name }) c.args.command.now c.args.pages.now.items c.push.new.self.items (map page_site_said c.push_below.new.pages.items)
    c.if-command.false c.in_ok-name.ensures c.in_ok-push.ensures.items)
    c.push_below.ensures
