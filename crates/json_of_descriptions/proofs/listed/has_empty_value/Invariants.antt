use Rattle.std.proofs.Common.{◌≡◌, length}
use denote.Text.{Utf8}
use denote.Shadow.{shadow}
use Rattle.std.specs.List.{list_any}
use Rattle.description.specs.Values.{listed_values}
use Rattle.json_of_descriptions.specs.Listed.{is_empty}
use Rattle.json_of_descriptions.proofs.listed.has_empty_value.Given as goal

abbrev pub invariant-loop-value : goal.invariant-loop-value
invariant-loop-value l = record {
  utf8 : shadow (Utf8 l.rest);
  later : list_any is_empty (listed_values l.rest) ≡ list_any is_empty (listed_values l.text);
}

abbrev pub decreases-loop-value : goal.decreases-loop-value
decreases-loop-value l = length l.rest
