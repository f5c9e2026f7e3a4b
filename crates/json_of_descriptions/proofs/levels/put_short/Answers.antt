use Rattle.std.proofs.Common.{subst, sym}
use Rattle.std.specs.Prelude.{codes}
use Rattle.json_of_descriptions.specs.Fields.{character_at}
use Rattle.json_of_descriptions.specs.Steps.{PutsFields}
use Rattle.json_of_descriptions.proofs.Putting.{fields_none}
use Rattle.json_of_descriptions.proofs.levels.put_short.Goals as goal

pub returns-in-None : goal.returns-in-None
returns-in-None g c = subst (λ t. PutsFields c.args.out.now c.args.out.now (character_at (codes "short") t)) (sym c.in-None.is) (fields_none c.args.out.now)
