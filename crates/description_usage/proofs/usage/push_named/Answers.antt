use Rattle.std.proofs.Common.{map}
use Rattle.page_model.specs.View.{line_of}
use Rattle.description_usage.proofs.LevelParts.{named_put, ok_more}
use Rattle.description_usage.proofs.usage.push_named.Goals as goal

pub returns : goal.returns
returns g c =
    ok_more c.push_groups.result _ _
    (λ put. named_put c.args.level.now (map (λ item. line_of item.items) c.args.items.now.items) (map (λ item. line_of item.items) c.push_options.new.items.items) (map (λ item. line_of item.items) c.push_choices.new.items.items) (map (λ item. line_of item.items) c.push_groups.new.items.items)
    c.as_slice.result.now c.as_slice-2.result.now c.as_slice-3.result.now c.as_slice.ensures.value c.as_slice-2.ensures.value c.as_slice-3.ensures.value c.in_ok-push_options.ensures c.in_ok-push_choices.ensures put) c.push_groups.ensures
