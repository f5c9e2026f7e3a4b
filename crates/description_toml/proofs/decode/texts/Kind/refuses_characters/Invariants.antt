use Rattle.std.proofs.Common.{◌≡◌, chars}
use Rattle.std.specs.List.{list_all}
use Rattle.std.specs.Prelude.{IsUtf8}
use Rattle.description_toml.specs.Described.Kinds.{allows}
use Rattle.description_toml.proofs.decode.texts.Kind.refuses_characters.Given as goal

abbrev pub invariant-loop-character : goal.invariant-loop-character
invariant-loop-character l = record {
  utf8 : IsUtf8 l.character-iterator.rest.now;
  so_far : list_all (allows l.self) (chars l.character-iterator.rest.now) ≡ list_all (allows l.self) (chars l.text);
}
