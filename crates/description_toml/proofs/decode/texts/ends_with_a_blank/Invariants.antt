use Rattle.std.proofs.Common.{◌≡◌, chars}
use Rattle.std.specs.Char.{is_whitespace}
use Rattle.std.specs.Prelude.{IsUtf8}
use Rattle.description_toml.specs.Described.Texts.{ends}
use Rattle.description_toml.proofs.Titles.{ends_after}
use Rattle.description_toml.proofs.decode.texts.ends_with_a_blank.Given as goal

abbrev pub invariant-loop-character : goal.invariant-loop-character
invariant-loop-character l = record {
  utf8 : IsUtf8 l.character-iterator.rest.now;
  so_far : ends_after is_whitespace l.is_blank (chars l.character-iterator.rest.now) ≡ ends is_whitespace (chars l.text);
}
