use Rattle.std.proofs.Common.{◌++◌, ◌∙◌, ap, map, sym}
use Rattle.std.proofs.lemmas.Result.{on_ok_weaker}
use Rattle.description_hints.specs.Hints.{part_warnings}
use Rattle.description_hints.specs.View.{around_said, part_said, path_said, warning_said}
use Rattle.description_hints.proofs.rules.push_part.Goals as goal

pub returns-in-Usage : goal.returns-in-Usage
returns-in-Usage c =
    on_ok_weaker c.push_usage.result
    (λ put. put ∙ ap (λ part. map warning_said c.args.found.now.items ++ part_warnings (around_said c.args.around.now) (path_said c.args.path.now) (part_said part)) (sym c.in-Usage.is))
    c.push_usage.ensures
