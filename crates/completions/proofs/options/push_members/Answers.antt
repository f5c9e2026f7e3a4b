use Rattle.std.proofs.Common.{◌++◌, map, rules, string_bytes}
use Rattle.std.specs.Prelude.{codes}
use Rattle.description.specs.View.{opt_said}
use Rattle.completions.specs.Table.{members_entries}
use Rattle.completions.specs.Written.{data_text}
use Rattle.completions.proofs.Members.{last_member, next_member}
use Rattle.completions.proofs.options.push_members.Goals as goal

pub loop-option-preserved : goal.loop-option-preserved
loop-option-preserved c =
    let whole = string_bytes c.args.out.now ++ data_text c.args.shell (members_entries (codes "once") (map opt_said c.args.options.now)) in
    record {
      utf8 = search rules;
      put =
          next_member c.args.shell c.args.options.now c.loop-option.option-index _ c.loop-option.what.now c.what_after-what.result.now (string_bytes c.loop-option.out) (string_bytes c.push_shown.new.out) whole
          c.loop-option-test.true c.what_after-what.ensures c.in_ok-push_shown.ensures c.loop-option.invariant.put;
    }

pub returns : goal.returns
returns c = last_member c.args.shell c.args.options.now c.loop-option.option-index c.loop-option.what.now (string_bytes c.loop-option.out) _ c.loop-option-test.false c.loop-option.invariant.put
