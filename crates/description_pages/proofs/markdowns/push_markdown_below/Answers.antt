use Rattle.std.proofs.Common.{map, ap, ◌∙◌}
use Rattle.std.proofs.lemmas.List.{map-append}
use Rattle.std.proofs.lemmas.Result.{on_ok_weaker}
use Rattle.page_model.specs.View.{part_of}
use Rattle.page_model.specs.declared.parts.Rank.TheVariants.{Subsection}
use Rattle.description_pages.specs.LevelsView.{level_page_of}
use Rattle.description_pages.specs.Arranged.{in_order}
use Rattle.description.specs.Words.{words_said}
use Rattle.description_pages.proofs.Below.{below_put}
use Rattle.description_pages.proofs.markdowns.push_markdown_below.Goals as goal

pub returns : goal.returns
returns g c =
    on_ok_weaker c.push_in_order.result
    (below_put (in_order Subsection (words_said c.args.words.now)) (map part_of c.args.parts.now.items) (map part_of c.push.new.self.items) (map part_of c.push_in_order.new.parts.items)
    (level_page_of c.in_ok-page.page) _ c.in_ok-page.ensures
    (ap (map part_of) c.in_ok-push.ensures.items ∙ map-append part_of c.args.parts.now.items _))
    c.push_in_order.ensures
