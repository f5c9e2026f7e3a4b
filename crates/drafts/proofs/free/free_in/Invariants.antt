use Rattle.std.proofs.Common.{◌≡◌, ◌++◌, map}
use denote.Text.{Utf8}
use denote.Shadow.{shadow}
use Rattle.drafts.specs.Free.{free_fronts, free_in, fronts}
use Rattle.drafts.specs.View.{free_said, held}
use Rattle.drafts.proofs.free.free_in.Given as goal

abbrev pub invariant-loop-most : goal.invariant-loop-most
invariant-loop-most g l = record {
  utf8 : shadow (Utf8 l.rest);
  so_far : map free_said l.found.items ++ free_fronts (held l.taken) (held l.seen) (fronts l.most l.rest) ≡ free_in (held l.taken) l.line;
}

abbrev pub decreases-loop-most : goal.decreases-loop-most
decreases-loop-most g l = l.most
