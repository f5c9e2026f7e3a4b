use Rattle.std.proofs.Common.{◌∙◌, refl, sym, string_bytes}
use Rattle.std.specs.Str.Iter.{chars_rest}
use Rattle.replay.proofs.Spelling.{printed_step}
use Rattle.replay.proofs.encoding.write_first.Goals as goal

pub returns-clause-written : goal.returns-clause-written
returns-clause-written c =
    rw c.as_str.ensures
    (printed_step (string_bytes c.args.out.now) (string_bytes c.write_character.new.out) c.args.text.now (chars_rest c.next.new.self) _ c.in-Some.character c.utf8.text
    (sym c.chars-characters.ensures.rest ∙ c.in-Some.ensures.steps.0) refl c.in_ok-write_character.ensures)
