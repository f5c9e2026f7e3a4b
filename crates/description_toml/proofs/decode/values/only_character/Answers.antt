use Rattle.description_toml.proofs.Reading.{more_characters, one_character}
use Rattle.description_toml.proofs.decode.values.only_character.Goals as goal

pub returns-then-is_none : goal.returns-then-is_none
returns-then-is_none c = one_character _ c.args.text.now c.chars-characters.result.rest.now c.next-first.new.self.rest.now c.next-first.result c.next.result c.chars-characters.ensures.rest c.utf8.text c.next-first.ensures.steps.0 c.next-first.ensures.steps.2 c.next.ensures.steps.2 c.if-is_none.ensures

pub returns-else-is_none : goal.returns-else-is_none
returns-else-is_none c = more_characters _ c.args.text.now c.chars-characters.result.rest.now c.next-first.new.self.rest.now c.next-first.result c.next.result c.chars-characters.ensures.rest c.utf8.text c.next-first.ensures.steps.0 c.next-first.ensures.steps.2 c.next.ensures.steps.2 c.if-is_none.ensures
