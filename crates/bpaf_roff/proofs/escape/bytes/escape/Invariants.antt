use Rattle.std.proofs.Common.{◌≡◌, ◌++◌, length, map}
use Rattle.std.specs.List.{AllByRecursion}
use Rattle.std.specs.Str.{IsUtf8}
use Rattle.bpaf_roff.specs.Pieces.{Piece, piece_at}
use Rattle.bpaf_roff.specs.Escaping.{is_line_start, escaped}
use Rattle.bpaf_roff.specs.declared.escape.Escape.{Escape}
use Rattle.bpaf_roff.proofs.escape.bytes.escape.Given as goal

abbrev pub invariant-loop-label : goal.invariant-loop-label
invariant-loop-label g l = record {
  can : (goal.iterator-loop-label g).can_next l.label-iterator;
  finite : (goal.iterator-loop-label g).is_finite l.label-iterator;
  start : l.start ≡ length l.fn.out.items;
  items : l.out.items ≡ l.fn.out.items ++ escaped l.apostrophes (map piece_at l.yielded);
  line_start : l.at_line_start ≡ is_line_start (escaped l.apostrophes (map piece_at l.yielded));
  utf8 : AllByRecursion (λ (p : Piece Escape). IsUtf8 p.text) (map piece_at l.yielded);
}
