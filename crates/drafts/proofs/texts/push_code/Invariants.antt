use Rattle.std.proofs.Common.{◌≡◌, ◌++◌, drop, map}
use Rattle.toml_pieces.specs.View.{piece_said}
use Rattle.drafts.specs.Texts.{code_piece}
use Rattle.drafts.proofs.texts.push_code.Given as goal

abbrev pub invariant-loop-line : goal.invariant-loop-line
invariant-loop-line g l = record {
  so_far : map piece_said l.pieces.items ++ map (code_piece l.indent) (map (λ line. line.now) (drop l.line-index l.lines)) ≡ map piece_said l.initial.pieces.items ++ map (code_piece l.indent) (map (λ line. line.now) l.lines);
}
