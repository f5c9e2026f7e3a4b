use Rattle.std.proofs.Common.{string_bytes}
use Rattle.std.specs.Str.Iter.{chars_rest}
use Rattle.std.proofs.lemmas.Str.{IsUtf8-past_char}
use Rattle.replay.proofs.Spelling.{printed_step, printed_end}
use Rattle.replay.proofs.encoding.write_each.Goals as goal

pub loop-character-preserved : goal.loop-character-preserved
loop-character-preserved c = (
  IsUtf8-past_char (chars_rest c.loop-character.character-iterator) (chars_rest c.next.new.self) c.in-Some.character c.loop-character.invariant.0 c.in-Some.ensures.steps.0,
  printed_step (string_bytes c.loop-character.out) (string_bytes c.write_character.new.out) (chars_rest c.loop-character.character-iterator) (chars_rest c.next.new.self) _ c.in-Some.character
      c.loop-character.invariant.0 c.in-Some.ensures.steps.0 c.loop-character.invariant.1 c.in_ok-write_character.ensures,
)

pub returns : goal.returns
returns c = printed_end (string_bytes c.loop-character.out) (chars_rest c.loop-character.character-iterator) _ c.in-None.ensures.steps.0.0 c.loop-character.invariant.1
