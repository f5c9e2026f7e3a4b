use Rattle.std.proofs.Common.{refl}
use Rattle.description_toml.specs.Described.{described}
use Rattle.description_toml.proofs.Reading.{passed_on}
use Rattle.description_toml.proofs.decode.description_of.Goals as goal

pub returns-in_err-words : goal.returns-in_err-words
unfolding described
returns-in_err-words g c = passed_on _ _ c.from_residual.result c.in_err-words.field-0.0 c.from_residual.ensures.1
    (λ n. rw (c.in-Ok.ensures.head, c.in_err-words.ensures n) refl)

pub returns-in_err-help_options : goal.returns-in_err-help_options
unfolding described
returns-in_err-help_options g c = passed_on _ _ c.from_residual-in_err-help_options.result c.in_err-help_options.field-0.0 c.from_residual-in_err-help_options.ensures.1
    (λ n. rw (c.in-Ok.ensures.head, c.in_ok-words.ensures, c.in_err-help_options.ensures n) refl)

pub returns-in_err-level : goal.returns-in_err-level
unfolding described
returns-in_err-level g c = passed_on _ _ c.from_residual-in_err-level.result c.in_err-level.field-0.0 c.from_residual-in_err-level.ensures.1
    (λ n. rw (c.in-Ok.ensures.head, c.in_ok-words.ensures, c.in_ok-help_options.ensures, c.in-Ok.ensures.groups, c.in-Ok.ensures.commands, c.in_err-level.ensures n) refl)

pub returns : goal.returns
unfolding described
returns g c = rw (c.in-Ok.ensures.head, c.in_ok-words.ensures, c.in_ok-help_options.ensures, c.in-Ok.ensures.groups, c.in-Ok.ensures.commands, c.in_ok-level.ensures) refl
