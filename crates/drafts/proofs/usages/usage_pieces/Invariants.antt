use Rattle.std.proofs.Common.{◌≡◌, ◌++◌, drop, map}
use Rattle.toml_pieces.specs.View.{piece_said}
use Rattle.drafts.specs.Usages.{form_piece, mark}
use Rattle.drafts.specs.View.{form_said}
use Rattle.drafts.proofs.usages.usage_pieces.Given as goal

abbrev pub invariant-loop-form : goal.invariant-loop-form
invariant-loop-form g l = record {
  so_far : map piece_said l.pieces.items ++ map (form_piece (mark (map form_said l.forms))) (map form_said (drop l.form-index l.forms)) ≡ map (form_piece (mark (map form_said l.forms))) (map form_said l.forms);
}
