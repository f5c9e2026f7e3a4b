use Rattle.std.proofs.Common.{◌≡◌, drop, map}
use Rattle.std.specs.List.{list_all}
use Rattle.drafts.specs.Options.{is_plain_value}
use Rattle.drafts.proofs.options.are_plain_values.Given as goal

abbrev pub invariant-loop-value : goal.invariant-loop-value
invariant-loop-value l = record {
  same : list_all is_plain_value (map (λ v. v.now) (drop l.value-index l.values)) ≡ list_all is_plain_value (map (λ v. v.now) l.values);
}
