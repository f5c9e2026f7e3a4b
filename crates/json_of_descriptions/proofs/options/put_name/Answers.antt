use Rattle.std.proofs.Common.{OnOk, subst, sym}
use Rattle.std.proofs.lemmas.Result.{on_ok_weaker}
use Rattle.description.specs.View.{name_said}
use Rattle.json_of_descriptions.specs.Descriptions.{name_fields}
use Rattle.json_of_descriptions.specs.Steps.{PutsFields}
use Rattle.json_of_descriptions.proofs.Putting.{fields_then}
use Rattle.json_of_descriptions.proofs.options.put_name.Goals as goal

pub returns-in_ok-put_character-in-Both : goal.returns-in_ok-put_character-in-Both
returns-in_ok-put_character-in-Both g c =
    subst (λ name. OnOk c.put_text-in-Both.result (PutsFields c.args.out.now c.put_text-in-Both.new.out (name_fields (name_said name)))) (sym c.in-Both.is)
    (on_ok_weaker c.put_text-in-Both.result (λ h. fields_then c.in_ok-put_character-in-Both.ensures h) c.put_text-in-Both.ensures)
