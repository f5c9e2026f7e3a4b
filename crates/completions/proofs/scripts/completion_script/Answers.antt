use Rattle.std.proofs.Common.{string_bytes}
use Rattle.description.specs.View.{description_said}
use Rattle.completions.specs.Table.{table}
use Rattle.completions.specs.Written.{data_text}
use Rattle.completions.proofs.Reading.{read_back}
use Rattle.completions.proofs.Whole.{script_put}
use Rattle.completions.proofs.scripts.completion_script.Goals as goal

pub returns : goal.returns
returns g c =
    let said = description_said c.args.description.now in
    record {
      data_part = data_text c.args.shell (table said);
      whole =
          script_put c.args.shell said.name (table said) _ (string_bytes c.push_head.new.out) (string_bytes c.push_table.new.out) (string_bytes c.push_tail.new.out) _ c.in_ok-tag.ensures c.in_ok-out.ensures c.in_ok-push_head.ensures c.in_ok-push_table.ensures c.in_ok-push_tail.ensures;
      reads = read_back c.args.shell (table said);
    }
