use Rattle.std.proofs.Common.{ap, ◌∙◌, chars}
use Rattle.std.proofs.lemmas.Str.{IsUtf8-past_char}
use Rattle.std.specs.Char.{is_whitespace}
use Rattle.description_toml.proofs.Titles.{ends_after, one_passed}
use Rattle.description_toml.proofs.decode.texts.ends_with_a_blank.Goals as goal

pub loop-character-preserved : goal.loop-character-preserved
loop-character-preserved c =
    let front = c.loop-character.character-iterator.rest.now in
    let rest = c.next.new.self.rest.now in
    record {
      utf8 = IsUtf8-past_char front rest c.in-Some.character c.loop-character.invariant.utf8 c.in-Some.ensures.steps.0;
      so_far =
          ap (λ b. ends_after is_whitespace b (chars rest)) c.is_whitespace-is_blank.ensures
          ∙ one_passed is_whitespace c.loop-character.is_blank front rest c.in-Some.character c.loop-character.invariant.utf8 c.in-Some.ensures.steps.0 ∙ c.loop-character.invariant.so_far;
    }
