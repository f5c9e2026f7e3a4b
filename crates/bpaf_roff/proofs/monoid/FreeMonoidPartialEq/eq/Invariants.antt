use Rattle.std.proofs.Common.{◌≡◌}
use Rattle.std.specs.Cmp.Lexicographic.{pointwise}
use Rattle.bpaf_roff.specs.Equality.{piece_eq}
use Rattle.bpaf_roff.proofs.monoid.FreeMonoidPartialEq.eq.Given as goal

abbrev pub invariant-loop-label : goal.invariant-loop-label
invariant-loop-label g l = pointwise (piece_eq g.T.PartialEq.eq) l.label-iterator l.theirs ≡ pointwise (piece_eq g.T.PartialEq.eq) l.fn.self.pieces l.fn.other.pieces
