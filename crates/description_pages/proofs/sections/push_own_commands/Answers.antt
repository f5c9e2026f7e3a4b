use Rattle.std.proofs.Common.{◌++◌, ap, map, ◌∙◌}
use Rattle.std.proofs.lemmas.Result.{on_ok_weaker}
use Rattle.description_pages.specs.Rows.{row_said}
use Rattle.description_pages.specs.Sections.{section_of}
use Rattle.description.specs.Words.{words_said}
use Rattle.description_pages.proofs.Lists.{own_commands}
use Rattle.description_pages.proofs.sections.push_own_commands.Goals as goal

pub returns : goal.returns
returns g c =
    on_ok_weaker c.push_list.result
    (λ e. e ∙ ap (λ more. map section_of c.args.sections.now.items ++ more)
    (own_commands c.args.level.now (words_said c.args.making.words.now) c.args.making.detail c.args.making.depth (map (λ name. name.now) c.args.making.names.now) (map row_said c.new-rows.result.items) (map row_said c.push_commands.new.rows.items) c.as_slice.result.now
    c.as_slice.ensures.value (ap (map row_said) c.new-rows.ensures.items) c.in_ok-push_commands.ensures))
    c.push_list.ensures
