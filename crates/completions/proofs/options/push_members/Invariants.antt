use Rattle.std.proofs.Common.{◌≡◌, ◌++◌, drop, map, string_bytes}
use Rattle.std.specs.Prelude.{codes}
use denote.Text.{Utf8}
use denote.Shadow.{shadow}
use Rattle.description.specs.View.{opt_said}
use Rattle.completions.specs.Table.{members_entries}
use Rattle.completions.specs.Written.{data_text}
use Rattle.completions.proofs.options.push_members.Given as goal

abbrev pub invariant-loop-option : goal.invariant-loop-option
invariant-loop-option l = record {
  utf8 : shadow (Utf8 l.what);
  put :
      string_bytes l.out ++ data_text l.shell (members_entries l.what (map opt_said (drop l.option-index l.options)))
      ≡ string_bytes l.fn.out ++ data_text l.shell (members_entries (codes "once") (map opt_said l.options));
}
