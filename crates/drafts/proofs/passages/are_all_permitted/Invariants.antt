use Rattle.std.proofs.Common.{◌≡◌, drop, map}
use Rattle.std.specs.List.{list_all}
use Rattle.page_model.specs.Permitted.{are_permitted}
use Rattle.drafts.proofs.passages.are_all_permitted.Given as goal

abbrev pub invariant-loop-line : goal.invariant-loop-line
invariant-loop-line l = record {
  same : list_all are_permitted (map (λ line. line.now) (drop l.line-index l.lines)) ≡ list_all are_permitted (map (λ line. line.now) l.lines);
}
