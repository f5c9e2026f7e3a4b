use Rattle.std.proofs.Common.{◌≡◌, IfOk, length, sym, ap, ◌∙◌, subst}
use Rattle.std.proofs.lemmas.List.{length-map}
use Rattle.description_hints.specs.View.{warning_said}
use Rattle.clidoc_engine.specs.Inputs.{count_of}
use Rattle.clidoc_engine.proofs.described.warnings_in.Goals as goal

pub returns-clause-each : goal.returns-clause-each
returns-clause-each c =
    subst (λ n. IfOk c.first_lines.result (λ lines. count_of lines ≡ n))
    (ap length c.deref-2.ensures.value ∙ sym (length-map c.in_ok-found.found.items warning_said) ∙ ap length c.in_ok-found.ensures)
    c.first_lines.ensures.each
