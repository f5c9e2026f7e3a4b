use Rattle.std.proofs.Common.{◌∙◌}
use Rattle.std.proofs.lemmas.Str.{IsUtf8-past_char}
use Rattle.description_toml.specs.Described.Kinds.{allows}
use Rattle.description_toml.proofs.Refused.{nothing_left, passed_here, refused_here}
use Rattle.description_toml.proofs.decode.texts.Kind.refuses_characters.Goals as goal

pub returns-then-is_some : goal.returns-then-is_some
returns-then-is_some c = refused_here (allows c.args.self) c.loop-character.character-iterator.rest.now c.next.new.self.rest.now c.in-Some.character c.refuses-refused.result c.is_some.result
    c.loop-character.invariant.utf8 c.in-Some.ensures.steps.0 c.refuses-refused.ensures c.is_some.ensures c.if-is_some.true ∙ c.loop-character.invariant.so_far

pub loop-character-preserved : goal.loop-character-preserved
loop-character-preserved c = record {
  utf8 = IsUtf8-past_char c.loop-character.character-iterator.rest.now c.next.new.self.rest.now c.in-Some.character c.loop-character.invariant.utf8 c.in-Some.ensures.steps.0;
  so_far = passed_here (allows c.args.self) c.loop-character.character-iterator.rest.now c.next.new.self.rest.now c.in-Some.character c.refuses-refused.result c.is_some.result
      c.loop-character.invariant.utf8 c.in-Some.ensures.steps.0 c.refuses-refused.ensures c.is_some.ensures c.if-is_some.false ∙ c.loop-character.invariant.so_far;
}

pub returns : goal.returns
returns c = nothing_left (allows c.args.self) c.loop-character.character-iterator.rest.now c.in-None.ensures.steps.0.0 ∙ c.loop-character.invariant.so_far
