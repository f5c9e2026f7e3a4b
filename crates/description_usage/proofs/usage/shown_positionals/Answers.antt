use Rattle.std.proofs.Common.{ap, map, not, sym, ◌∙◌, ◌++◌}
use Rattle.std.specs.Prelude.{flat_map}
use Rattle.std.proofs.lemmas.List.Elements.{filter-append}
use Rattle.description.specs.View.{group_said, positional_said}
use Rattle.description.specs.declared.levels.Level.{out-Level}
use Rattle.description_usage.specs.Usage.{group_positionals, shown_positionals}
use Rattle.description_usage.proofs.LevelParts.{level_groups, positionals_there}
use Rattle.description_usage.proofs.usage.shown_positionals.Goals as goal

pub returns : goal.returns
returns g c =
    let l = c.args.level.now in
    let front = flat_map group_positionals (level_groups l) in
    let own = map positional_said (out-Level g.row.B.Denot l).positionals.items in
    c.in_ok-push_positionals.ensures
    ∙ ap (λ ps. map positional_said c.push_group_positionals.new.shown.items ++ shown_positionals (map positional_said ps)) c.as_slice-2.ensures.value
    ∙ ap (λ ps. ps ++ shown_positionals own)
    (c.in_ok-push_group_positionals.ensures ∙ ap (λ ps. map positional_said ps ++ shown_positionals (flat_map group_positionals (map group_said c.as_slice.result.now))) c.new-shown.ensures.items
    ∙ ap (λ gs. shown_positionals (flat_map group_positionals (map group_said gs))) c.as_slice.ensures.value)
    ∙ sym (filter-append (λ p. not p.hidden) front own) ∙ sym (ap shown_positionals (positionals_there l))
