use Rattle.std.proofs.Common.{map}
use Rattle.std.proofs.lemmas.Result.{on_ok_weaker}
use Rattle.description_pages.proofs.PageNames.{level_below}
use Rattle.description_pages.proofs.neighbours.push_below.Goals as goal

pub returns : goal.returns
returns g c =
    on_ok_weaker c.push_commands.result
    (level_below c.args.level.now (map (λ name. name.now) c.args.names.now)
    (map (λ page. page.now) c.args.pages.now.items) (map (λ page. page.now) c.push_groups.new.pages.items) (map (λ page. page.now) c.push_commands.new.pages.items)
    c.as_slice.result.now c.as_slice-2.result.now c.as_slice.ensures.value c.as_slice-2.ensures.value
    c.in_ok-push_groups.ensures)
    c.push_commands.ensures
