use Rattle.std.proofs.Common.{◌≡◌, IfOk, codes, subst, ◌∙◌}
use Rattle.description_pages.proofs.Titles.{joined_seen}
use Rattle.command_pages.proofs.html.joined.Goals as goal

pub returns : goal.returns
returns c =
    subst (λ bytes. IfOk c.try_alloc_str.result (λ whole. whole.now ≡ bytes)) (c.as_str.ensures.value ∙ c.in_ok-whole.ensures.ok ∙ joined_seen (λ name. name.now) (codes ", ") c.args.words.now) c.try_alloc_str.ensures
