use Rattle.std.specs.Prelude.{◌<◌, ◌≡◌}
use Rattle.bpaf_items.proofs.Words.{length, rules, arith, slice_set, OnOk-map}
use Rattle.bpaf_items.proofs.Steps.Fronts.{front_then}
use Rattle.bpaf_items.proofs.Steps.Kept.{moved_last, moved_front, take_front, with_last}
use Rattle.bpaf_items.proofs.meta_help.walk.close.Goals as goal

pub returns-in_err-push-clause-front : goal.returns-in_err-push-clause-front
returns-in_err-push-clause-front g c =
    let old = c.args.items.now.items in
    let within : c.args.at < length old = search rules in
    front_then _ old _ (take_front old c.args.at within) c.push.ensures.front

pub returns-clause-items : goal.returns-clause-items
returns-clause-items g c = grind (arith, moved_last, OnOk-map, with_last)

pub returns-clause-front : goal.returns-clause-front
returns-clause-front g c =
    let old = c.args.items.now.items in
    let within : c.args.at < length old = search rules in
    let two = c.swap_remove-kept.new.self.items in
    let moved : two ≡ slice_set old c.args.at c.args.first = moved_last old c.push.new.items.items two c.args.at c.args.first c.swap_remove-kept.result within c.in_ok-push.ensures.items c.swap_remove-kept.ensures.items in
    moved_front old two c.push-2.new.items.items c.args.at c.args.first within moved c.push-2.ensures.front
