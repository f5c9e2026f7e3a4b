use Rattle.std.proofs.Common.{◌≡◌, IfOk, subst, ◌∙◌}
use Rattle.description_pages.proofs.Titles.{joined_seen}
use Rattle.description_pages.proofs.neighbours.joined_names.Goals as goal

pub returns : goal.returns
returns g c =
    subst (λ bytes. IfOk c.try_alloc_str.result (λ whole. whole.now ≡ bytes)) (c.as_str.ensures.value ∙ c.in_ok-whole.ensures.ok ∙ joined_seen (λ name. name.now) c.args.between.now c.args.names.now) c.try_alloc_str.ensures
