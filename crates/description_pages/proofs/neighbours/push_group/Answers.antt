use Rattle.std.proofs.Common.{◌++◌, map, ap, ◌∙◌}
use Rattle.std.proofs.lemmas.Result.{on_ok_weaker}
use Rattle.description_pages.proofs.PageNames.{group_below}
use Rattle.description_pages.proofs.neighbours.push_group.Goals as goal

pub returns : goal.returns
returns g c =
    on_ok_weaker c.push_commands.result
    (λ e. e ∙ ap (λ more. map (λ page. page.now) c.args.pages.now.items ++ more) (group_below c.args.group.now (map (λ name. name.now) c.args.names.now) c.as_slice.result.now c.as_slice.ensures.value))
    c.push_commands.ensures
