use Rattle.std.proofs.Common.{◌≡◌, drop, map}
use Rattle.std.specs.List.{list_all}
use Rattle.drafts.specs.Options.{is_syntax_part}
use Rattle.drafts.proofs.options.are_syntax_parts.Given as goal

abbrev pub invariant-loop-name : goal.invariant-loop-name
invariant-loop-name g l = record {
  same : list_all is_syntax_part (map (λ n. n.now) (drop l.name-index l.names)) ≡ list_all is_syntax_part (map (λ n. n.now) l.names);
}
