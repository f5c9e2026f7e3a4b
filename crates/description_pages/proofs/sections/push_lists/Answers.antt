use Rattle.std.proofs.Common.{map}
use Rattle.std.proofs.lemmas.Result.{on_ok_weaker}
use Rattle.description.specs.View.{opt_said}
use Rattle.description_pages.specs.Sections.{section_of}
use Rattle.description.specs.Words.{words_said}
use Rattle.description_pages.proofs.Lists.{level_listed}
use Rattle.description_pages.proofs.sections.push_lists.Goals as goal

pub returns : goal.returns
returns g c =
    on_ok_weaker c.push_own_commands.result
    (level_listed c.args.level.now (map section_of) (words_said c.args.making.words.now) c.args.making.detail c.args.making.depth (map (λ name. name.now) c.args.making.names.now) (map opt_said c.args.help_options.now) c.as_slice.result.now
    c.args.sections.now.items c.push_arguments.new.sections.items c.push_groups.new.sections.items c.push_own_options.new.sections.items c.push_own_commands.new.sections.items
    c.as_slice.ensures.value c.in_ok-push_arguments.ensures c.in_ok-push_groups.ensures c.in_ok-push_own_options.ensures)
    c.push_own_commands.ensures
