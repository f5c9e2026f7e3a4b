use Rattle.std.proofs.Common.{string_bytes}
use Rattle.std.specs.Str.Iter.{chars_rest}
use Rattle.bpaf_help.proofs.Steps.{dashed_step, dashed_end}
use Rattle.bpaf_help.proofs.pages.paths.without_blanks.Goals as goal

pub loop-character-preserved : goal.loop-character-preserved
loop-character-preserved g c = record {
  written = dashed_step (string_bytes c.loop-character.dashed) (string_bytes c.push.new.self) (chars_rest c.loop-character.character-iterator) (chars_rest c.next.new.self) _ c.in-Some.character c.without_blank.result
      c.in-Some.ensures.steps.0 c.without_blank.ensures c.loop-character.invariant.written c.in_ok-push.ensures.bytes;
}

pub returns : goal.returns
returns g c = dashed_end (string_bytes c.loop-character.dashed) (chars_rest c.loop-character.character-iterator) _ c.in-None.ensures.steps.0.0 c.loop-character.invariant.written
