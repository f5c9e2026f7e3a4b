use Rattle.std.proofs.Common.{◌+◌, drop, map, sym, ap, ◌∙◌}
use Rattle.std.specs.List.{find}
use Rattle.std.specs.Option.{option_map, option_or}
use Rattle.description_pages.specs.Subjects.{grouped, is_named}
use Rattle.description.specs.View.{command_said, groups_said}
use Rattle.description_pages.proofs.Named.{in_group}
use Rattle.description_pages.proofs.subjects.grouped_command.Goals as goal

pub returns-in-Some : goal.returns-in-Some
returns-in-Some g c =
    let test = is_named c.args.word.now in
    let groups = c.args.groups.now in
    let i = c.loop-group.group-index in
    let own = sym (ap (λ cs. find test (map command_said cs)) c.as_slice.ensures.value) ∙ sym c.listed_command.ensures ∙ ap (option_map (λ command. command_said command.now)) c.in-Some.is in
    sym (ap (λ o. option_or o (find test (grouped (groups_said (drop (i + 1) groups))))) own) ∙ sym (in_group test groups i c.group-item.result c.group-item.result c.group-item.is c.loop-group-test.true) ∙ c.loop-group.invariant

pub loop-group-preserved : goal.loop-group-preserved
loop-group-preserved g c =
    let test = is_named c.args.word.now in
    let groups = c.args.groups.now in
    let i = c.loop-group.group-index in
    let own = sym (ap (λ cs. find test (map command_said cs)) c.as_slice.ensures.value) ∙ sym c.listed_command.ensures ∙ ap (option_map (λ command. command_said command.now)) c.in_default.is in
    sym (ap (λ o. option_or o (find test (grouped (groups_said (drop (i + 1) groups))))) own) ∙ sym (in_group test groups i c.group-item.result c.group-item.result c.group-item.is c.loop-group-test.true) ∙ c.loop-group.invariant
