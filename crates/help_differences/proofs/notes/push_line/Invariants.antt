use Rattle.std.proofs.Common.{◌≡◌, ◌++◌, length, map}
use denote.Text.{Utf8}
use denote.Shadow.{shadow}
use Rattle.help_differences.specs.Names.{called}
use Rattle.help_differences.specs.Notes.{texts_of_line}
use Rattle.help_differences.specs.View.{name_said}
use Rattle.help_differences.specs.declared.names.Kind.TheVariants as kinds
use Rattle.help_differences.proofs.notes.push_line.Given as goal

abbrev pub invariant-loop-text : goal.invariant-loop-text
invariant-loop-text g l = record {
  utf8 : shadow (Utf8 l.rest);
  so_far : map name_said l.names.items ++ map (called kinds.Command) (texts_of_line l.rest) ≡ map name_said l.initial.names.items ++ map (called kinds.Command) (texts_of_line l.line);
}

abbrev pub decreases-loop-text : goal.decreases-loop-text
decreases-loop-text g l = length l.rest
