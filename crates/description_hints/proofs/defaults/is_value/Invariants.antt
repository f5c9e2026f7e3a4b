use Rattle.std.proofs.Common.{◌≡◌, length}
use denote.Text.{Utf8}
use denote.Shadow.{shadow}
use Rattle.description.specs.Values.{listed_values}
use Rattle.description_hints.specs.Names.{is_among}
use Rattle.description_hints.proofs.defaults.is_value.Given as goal

abbrev pub invariant-loop-value : goal.invariant-loop-value
invariant-loop-value l = record {
  utf8 : shadow (Utf8 l.rest);
  same : is_among (listed_values l.rest) l.text ≡ is_among (listed_values l.values) l.text;
}

abbrev pub decreases-loop-value : goal.decreases-loop-value
decreases-loop-value l = length l.rest
