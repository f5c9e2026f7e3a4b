use Rattle.std.proofs.Common.{◌++◌, ap, map, string_bytes, ◌∙◌}
use Rattle.std.proofs.lemmas.Result.{on_ok_weaker}
use Rattle.description.specs.View.{level_said, opt_said}
use Rattle.completions.specs.Table.{level_entries, options_entries}
use Rattle.completions.specs.View.{entry_said}
use Rattle.completions.specs.Written.{data_text}
use Rattle.completions.proofs.Members.{table_put}
use Rattle.completions.proofs.levels.push_table.Goals as goal

pub returns : goal.returns
returns g c =
    let d = c.args.description.now in
    let s1 = string_bytes c.push_entry.new.out in
    let helps = c.in_ok-push_options.ensures ∙ ap (λ os. s1 ++ data_text c.args.shell (options_entries (map opt_said os))) c.as_slice.ensures.value in
    on_ok_weaker c.push_entry-3.result
    (table_put c.args.shell d.name.now (options_entries (map opt_said d.help_options.items)) (level_entries (level_said d.level)) (entry_said c.lone.result) (entry_said c.mark.result) (entry_said c.mark-2.result)
    (string_bytes c.args.out.now) s1 (string_bytes c.push_options.new.out) (string_bytes c.push_entry-2.new.out) (string_bytes c.push_level.new.out) (string_bytes c.push_entry-3.new.out)
    c.lone.ensures c.mark.ensures c.mark-2.ensures c.in_ok-push_entry.ensures helps c.in_ok-push_entry-2.ensures c.in_ok-push_level.ensures)
    c.push_entry-3.ensures
