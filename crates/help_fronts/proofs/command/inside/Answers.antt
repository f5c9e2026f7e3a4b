use Rattle.help_fronts.proofs.Boundaries.{after_parenthesis}
use Rattle.help_fronts.proofs.command.inside.Goals as goal

pub range-requires-clause-start_boundary : goal.range-requires-clause-start_boundary
range-requires-clause-start_boundary c = λ positive. after_parenthesis c.args.word.now c.utf8.word c.requires
