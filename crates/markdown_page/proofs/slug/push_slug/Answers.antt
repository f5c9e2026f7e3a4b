use Rattle.std.proofs.Common.{string_bytes}
use Rattle.std.proofs.lemmas.Str.{IsUtf8-past_char}
use Rattle.markdown_page.proofs.Slugs.{character_more, none_more}
use Rattle.markdown_page.proofs.slug.push_slug.Goals as goal

pub loop-character-preserved : goal.loop-character-preserved
loop-character-preserved g c = record {
  utf8 = IsUtf8-past_char c.loop-character.character-iterator.rest.now c.next.new.self.rest.now c.in-Some.character c.loop-character.invariant.utf8 c.in-Some.ensures.steps.0;
  so_far = character_more (string_bytes c.loop-character.slug) (string_bytes c.push_slug_character.new.slug) c.loop-character.character-iterator.rest.now c.next.new.self.rest.now _ c.in-Some.character
      c.loop-character.invariant.utf8 c.in-Some.ensures.steps.0 c.in_ok-push_slug_character.ensures c.loop-character.invariant.so_far;
}

pub returns : goal.returns
returns g c = none_more (string_bytes c.loop-character.slug) c.loop-character.character-iterator.rest.now _ c.in-None.ensures.steps.0.0 c.loop-character.invariant.so_far
