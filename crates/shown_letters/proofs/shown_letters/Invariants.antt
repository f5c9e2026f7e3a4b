use Rattle.std.proofs.Common.{◌≡◌, chars}
use Rattle.std.specs.Prelude.{IsUtf8}
use Rattle.std.specs.List.{fold}
use Rattle.shown_letters.specs.Terminal.{blank_screen, step}
use Rattle.shown_letters.proofs.shown_letters.Given as goal

abbrev pub invariant-loop-character : goal.invariant-loop-character
invariant-loop-character g l = record {
  utf8 : IsUtf8 l.character-iterator.rest.now;
  so_far : fold step l.screen (chars l.character-iterator.rest.now) ≡ fold step blank_screen (chars l.text);
}
