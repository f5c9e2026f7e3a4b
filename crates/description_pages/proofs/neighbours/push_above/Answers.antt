use Rattle.description_pages.proofs.PageNames.{above_put}
use Rattle.description_pages.proofs.neighbours.push_above.Goals as goal

pub returns : goal.returns
returns g c =
    above_put (λ name. name.now) (λ page. page.now) c.args.names.now c.args.pages.now.items c.push.new.self.items c.in_ok-joined_names.field-0
    c.if-names-lt2.false c.in_ok-joined_names.ensures c.in_ok-push.ensures.items
