use Rattle.std.proofs.Common.{◌≡◌}
use denote.Text.{Utf8}
use denote.Shadow.{shadow}
use Rattle.drafts.specs.Notes.{IsFront, cut, cut_from}
use Rattle.drafts.specs.View.{notes_said}
use Rattle.drafts.proofs.notes.cut_notes.Given as goal

abbrev pub invariant-loop-most : goal.invariant-loop-most
invariant-loop-most l = record {
  utf8 : shadow (Utf8 l.rest);
  so_far : cut_from l.most l.rest (notes_said (record { preset = l.notes.0; values = l.notes.1.0; env = l.notes.1.1.0; are_single = l.notes.1.1.1.0 })) ≡ cut l.text;
  front : IsFront l.rest l.text;
}

abbrev pub decreases-loop-most : goal.decreases-loop-most
decreases-loop-most l = l.most
