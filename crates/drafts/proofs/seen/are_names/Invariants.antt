use Rattle.std.proofs.Common.{◌≡◌, drop, map}
use Rattle.std.specs.List.{list_all}
use Rattle.drafts.specs.Seen.{is_name}
use Rattle.drafts.proofs.seen.are_names.Given as goal

abbrev pub invariant-loop-name : goal.invariant-loop-name
invariant-loop-name l = record {
  same : list_all is_name (map (λ n. n.now) (drop l.name-index l.names)) ≡ list_all is_name (map (λ n. n.now) l.names);
}
