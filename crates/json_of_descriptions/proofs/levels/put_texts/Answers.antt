use Rattle.std.proofs.lemmas.Result.{on_ok_weaker}
use Rattle.std.proofs.Common.{subst, sym}
use Rattle.description.proofs.Views.{open-Level}
use Rattle.json_of_descriptions.specs.Descriptions.{texts_of_level}
use Rattle.json_of_descriptions.specs.Steps.{PutsFields}
use Rattle.json_of_descriptions.proofs.Putting.{fields_then}
use Rattle.json_of_descriptions.proofs.levels.put_texts.Goals as goal

pub returns : goal.returns
returns g c =
    on_ok_weaker c.put_optional-4.result
    (λ h.
    let w3 = fields_then c.in_ok-put_optional-3.ensures h in
    let w2 = fields_then c.in_ok-put_optional-2.ensures w3 in
    let w1 = fields_then c.in_ok-put_optional.ensures w2 in
    subst (λ said. PutsFields c.args.out.now c.put_optional-4.new.out (texts_of_level said)) (sym (open-Level c.args.level.now)) w1)
    c.put_optional-4.ensures
