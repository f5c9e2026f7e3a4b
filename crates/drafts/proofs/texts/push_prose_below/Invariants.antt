use Rattle.std.proofs.Common.{◌≡◌, ◌++◌, drop, map}
use denote.Text.{Utf8}
use denote.Shadow.{shadow}
use Rattle.toml_pieces.specs.View.{piece_said}
use Rattle.drafts.specs.Texts.{prose_below}
use Rattle.drafts.proofs.texts.push_prose_below.Given as goal

abbrev pub invariant-loop-line : goal.invariant-loop-line
invariant-loop-line g l = record {
  utf8 : shadow (Utf8 l.above);
  so_far : map piece_said l.pieces.items ++ prose_below l.width l.above (map (λ line. line.now) (drop l.line-index l.below)) ≡ map piece_said l.initial.pieces.items ++ prose_below l.width l.first (map (λ line. line.now) l.below);
}
