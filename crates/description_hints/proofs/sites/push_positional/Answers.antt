use Rattle.std.proofs.Common.{◌++◌, map, ap, ◌∙◌}
use Rattle.std.proofs.lemmas.Result.{on_ok_weaker}
use Rattle.description.specs.View.{positional_said}
use Rattle.description_hints.specs.Sites.{value_sites}
use Rattle.description_hints.specs.View.{site_said}
use Rattle.description_hints.proofs.sites.push_positional.Goals as goal

pub returns : goal.returns
returns c =
    on_ok_weaker c.push_value.result
    (λ put. put ∙ ap (λ path. map site_said c.args.sites.now.items ++ value_sites path (positional_said c.args.positional.now)) c.in_ok-path.ensures)
    c.push_value.ensures
