use Rattle.std.proofs.Common.{◌≡◌, ◌++◌, length, map}
use denote.Text.{Utf8}
use denote.Shadow.{shadow}
use Rattle.help_differences.specs.Names.{called}
use Rattle.help_differences.specs.Notes.{texts_of_note}
use Rattle.help_differences.specs.View.{name_said}
use Rattle.help_differences.specs.declared.names.Kind.TheVariants as kinds
use Rattle.help_differences.proofs.notes.push_note.Given as goal

abbrev pub invariant-loop-part : goal.invariant-loop-part
invariant-loop-part g l = record {
  utf8 : shadow (Utf8 l.rest);
  so_far : map name_said l.names.items ++ map (called kinds.Command) (texts_of_note l.rest) ≡ map name_said l.initial.names.items ++ map (called kinds.Command) (texts_of_note l.note);
}

abbrev pub decreases-loop-part : goal.decreases-loop-part
decreases-loop-part g l = length l.rest
