use Rattle.std.proofs.Common.{map}
use Rattle.description_pages.specs.LevelsView.{subject_of}
use Rattle.description_pages.proofs.Named.{entered}
use Rattle.description_pages.proofs.subjects.below.Goals as goal

pub returns : goal.returns
returns g c = entered (subject_of c.args.above) c.args.command.now (map (λ name. name.now) c.in_ok-names_below.field-0.now) c.in_ok-names_below.ensures
