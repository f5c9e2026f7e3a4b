use Rattle.std.proofs.Common.{◌++◌, ap, map, ◌∙◌}
use Rattle.std.proofs.lemmas.Result.{on_ok_weaker}
use Rattle.description_pages.specs.Rows.{row_said}
use Rattle.description_pages.specs.Sections.{section_of}
use Rattle.description.specs.Words.{words_said}
use Rattle.description_pages.proofs.Lists.{group_listed}
use Rattle.description_pages.proofs.sections.push_group.Goals as goal

pub returns : goal.returns
returns g c =
    on_ok_weaker c.push_list.result
    (λ e. e ∙ ap (λ more. map section_of c.args.sections.now.items ++ more)
    (group_listed c.args.group.now (words_said c.args.making.words.now) c.args.making.detail c.args.making.depth (map (λ name. name.now) c.args.making.names.now) c.without_colon.result.now
    (map row_said c.new-rows.result.items) (map row_said c.push_options.new.rows.items) (map row_said c.push_choices.new.rows.items) (map row_said c.push_values.new.rows.items) (map row_said c.push_commands.new.rows.items)
    c.as_slice.result.now c.as_slice-2.result.now c.as_slice-3.result.now c.as_slice-4.result.now c.as_slice.ensures.value c.as_slice-2.ensures.value c.as_slice-3.ensures.value c.as_slice-4.ensures.value
    (ap (map row_said) c.new-rows.ensures.items) c.in_ok-push_options.ensures c.in_ok-push_choices.ensures c.in_ok-push_values.ensures c.in_ok-push_commands.ensures c.without_colon.ensures))
    c.push_list.ensures
