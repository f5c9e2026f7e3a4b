use Rattle.std.proofs.Common.{◌≡◌, drop, true}
use Rattle.description_texts.specs.TextsView.{says_itself}
use Rattle.description_texts.proofs.texts.spacing.says_itself.Given as goal

abbrev pub invariant-loop-byte : goal.invariant-loop-byte
invariant-loop-byte l = says_itself l.is_after_white (drop l.byte-index l.line) ≡ says_itself true l.line
