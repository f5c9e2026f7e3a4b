use Rattle.std.proofs.lemmas.Result.{on_ok_weaker}
use Rattle.std.proofs.Common.{subst, sym}
use Rattle.description.proofs.Views.{open-Command}
use Rattle.json_of_descriptions.specs.Descriptions.{names_of_command}
use Rattle.json_of_descriptions.specs.Steps.{PutsFields}
use Rattle.json_of_descriptions.proofs.Putting.{fields_then}
use Rattle.json_of_descriptions.proofs.levels.put_names.Goals as goal

pub returns : goal.returns
returns g c =
    on_ok_weaker c.put_words.result
    (λ h.
    let w4 = fields_then c.in_ok-put_flag_unless.ensures h in
    let w3 = fields_then c.in_ok-put_optional.ensures w4 in
    let w2 = fields_then c.in_ok-put_short.ensures w3 in
    let w1 = fields_then c.in_ok-put_text.ensures w2 in
    subst (λ said. PutsFields c.args.out.now c.put_words.new.out (names_of_command said)) (sym (open-Command c.args.command.now)) w1)
    c.put_words.ensures
