use Rattle.std.proofs.Common.{◌≡◌, ◌++◌, length, map, true}
use denote.Text.{Utf8}
use denote.Shadow.{shadow}
use Rattle.std.specs.Char.{is_ascii_alphanumeric}
use Rattle.std.specs.List.{list_all}
use Rattle.drafts.specs.Strays.{letter}
use Rattle.drafts.specs.View.{stray_said}
use Rattle.drafts.proofs.strays.push_letters.Given as goal

abbrev pub invariant-loop-rest : goal.invariant-loop-rest
invariant-loop-rest g l = record {
  utf8 : shadow (Utf8 l.rest);
  letters : list_all is_ascii_alphanumeric l.rest ≡ true;
  so_far : map stray_said l.strays.items ++ map letter l.rest ≡ map stray_said l.initial.strays.items ++ map letter l.letters;
}

abbrev pub decreases-loop-rest : goal.decreases-loop-rest
decreases-loop-rest g l = length l.rest
