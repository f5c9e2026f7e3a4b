use Rattle.std.proofs.Common.{subst, sym}
use Rattle.json_of_descriptions.specs.Descriptions.{hint_at}
use Rattle.json_of_descriptions.specs.Steps.{PutsFields}
use Rattle.json_of_descriptions.proofs.Putting.{fields_none}
use Rattle.json_of_descriptions.proofs.fields.put_hint.Goals as goal

pub returns-in-File : goal.returns-in-File
returns-in-File g c = subst (λ h. PutsFields c.args.out.now c.args.out.now (hint_at c.args.key.now h)) (sym c.in-File.is) (fields_none c.args.out.now)
