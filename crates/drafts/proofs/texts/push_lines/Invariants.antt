use Rattle.std.proofs.Common.{◌≡◌, ◌++◌, drop, map}
use Rattle.toml_pieces.specs.declared.toml.Lead.TheVariants as lead
use Rattle.toml_pieces.specs.View.{piece_said}
use Rattle.drafts.specs.Texts.{prose_piece}
use Rattle.drafts.proofs.texts.push_lines.Given as goal

abbrev pub invariant-loop-line : goal.invariant-loop-line
invariant-loop-line g l = record {
  so_far : map piece_said l.pieces.items ++ map (prose_piece lead.Line) (map (λ line. line.now) (drop l.line-index l.lines)) ≡ map piece_said l.initial.pieces.items ++ map (prose_piece lead.Line) (map (λ line. line.now) l.lines);
}
