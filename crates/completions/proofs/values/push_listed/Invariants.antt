use Rattle.std.proofs.Common.{◌≡◌, ◌++◌, length, map, string_bytes}
use Rattle.std.specs.Prelude.{codes}
use denote.Text.{Utf8}
use denote.Shadow.{shadow}
use Rattle.completions.specs.Table.{lone}
use Rattle.description.specs.Values.{listed_values}
use Rattle.completions.specs.Written.{data_text}
use Rattle.completions.proofs.values.push_listed.Given as goal

abbrev pub invariant-loop-value : goal.invariant-loop-value
invariant-loop-value g l = record {
  utf8 : shadow (Utf8 l.rest);
  put :
      string_bytes l.out ++ data_text l.shell (map (lone (codes "among")) (listed_values l.rest))
      ≡ string_bytes l.fn.out ++ data_text l.shell (map (lone (codes "among")) (listed_values l.text));
}

abbrev pub decreases-loop-value : goal.decreases-loop-value
decreases-loop-value g l = length l.rest
