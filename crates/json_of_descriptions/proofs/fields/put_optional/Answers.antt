use Rattle.std.proofs.Common.{subst, sym}
use Rattle.description.specs.View.{text_of}
use Rattle.json_of_descriptions.specs.Fields.{optional_at}
use Rattle.json_of_descriptions.specs.Steps.{PutsFields}
use Rattle.json_of_descriptions.proofs.Putting.{fields_none}
use Rattle.json_of_descriptions.proofs.fields.put_optional.Goals as goal

pub returns-in-None : goal.returns-in-None
returns-in-None g c = subst (λ t. PutsFields c.args.out.now c.args.out.now (optional_at c.args.key.now (text_of t))) (sym c.in-None.is) (fields_none c.args.out.now)
