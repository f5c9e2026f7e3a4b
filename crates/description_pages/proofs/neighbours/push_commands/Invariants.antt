use Rattle.std.proofs.Common.{◌≡◌, ◌++◌, drop, map}
use Rattle.description.specs.View.{commands_said}
use Rattle.description_pages.specs.Levels.{pages_below}
use Rattle.description_pages.proofs.neighbours.push_commands.Given as goal

abbrev pub invariant-loop-command : goal.invariant-loop-command
invariant-loop-command g l =
    map (λ page. page.now) l.pages.items ++ pages_below (map (λ name. name.now) l.names) (commands_said (drop l.command-index l.commands))
    ≡ map (λ page. page.now) l.initial.pages.items ++ pages_below (map (λ name. name.now) l.names) (commands_said l.commands)
