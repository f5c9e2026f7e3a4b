use Rattle.std.proofs.Common.{◌≡◌, ap, ◌∙◌, encode_utf8, flat_map, string_bytes}
use Rattle.std.proofs.lemmas.Str.{IsUtf8-past_char}
use Rattle.std.proofs.lemmas.Result.{IfOk-weaker}
use Rattle.shown_letters.specs.Terminal.{letters_on, shown_letters}
use Rattle.shown_letters.proofs.Characters.{character_more, none_more}
use Rattle.shown_letters.proofs.shown_letters.Goals as goal

pub loop-character-preserved : goal.loop-character-preserved
loop-character-preserved g c = record {
  utf8 = IsUtf8-past_char c.loop-character.character-iterator.rest.now c.next.new.self.rest.now c.in-Some.character c.loop-character.invariant.utf8 c.in-Some.ensures.steps.0;
  so_far = character_more c.loop-character.screen c.take.new.self _ c.loop-character.character-iterator.rest.now c.next.new.self.rest.now c.in-Some.character
      c.loop-character.invariant.utf8 c.in-Some.ensures.steps.0 c.in_ok-take.ensures c.loop-character.invariant.so_far;
}

pub returns : goal.returns
returns g c = record {
  exact = IfOk-weaker c.into_text.result (λ text. string_bytes text ≡ flat_map encode_utf8 (letters_on c.loop-character.screen)) (λ text. string_bytes text ≡ shown_letters c.args.text.now)
      (λ text is. is ∙ ap (λ s. flat_map encode_utf8 (letters_on s)) (none_more c.loop-character.screen _ c.loop-character.character-iterator.rest.now c.in-None.ensures.steps.0.0 c.loop-character.invariant.so_far))
      c.into_text.ensures;
}
