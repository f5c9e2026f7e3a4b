use Rattle.std.proofs.Common.{◌≡◌, ◌++◌, chars, string_bytes}
use Rattle.std.specs.Prelude.{IsUtf8, flat_map}
use Rattle.markdown_page.specs.Slugs.{slug_character}
use Rattle.markdown_page.proofs.slug.push_slug.Given as goal

abbrev pub invariant-loop-character : goal.invariant-loop-character
invariant-loop-character g l = record {
  utf8 : IsUtf8 l.character-iterator.rest.now;
  so_far : string_bytes l.slug ++ flat_map slug_character (chars l.character-iterator.rest.now) ≡ string_bytes l.initial.slug ++ flat_map slug_character (chars l.small);
}
