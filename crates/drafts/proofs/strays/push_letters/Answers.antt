use Rattle.std.proofs.Common.{◌++◌, ◌∷◌, ◌∙◌, [], ap, arith, map, rules}
use Rattle.std.proofs.lemmas.List.{map-append}
use Rattle.drafts.specs.View.{stray_said}
use Rattle.drafts.proofs.Letters.{letters_cut, letters_more, letters_rest}
use Rattle.drafts.proofs.strays.push_letters.Goals as goal

pub split_at-requires : goal.split_at-requires
split_at-requires g c = letters_cut c.loop-rest.rest.now c.loop-rest.invariant.letters (omega arith) (search rules)

pub loop-rest-preserved : goal.loop-rest-preserved
loop-rest-preserved g c = record {
  utf8 = search rules;
  letters = letters_rest c.loop-rest.rest.now c.split_at.result.1.now c.loop-rest.invariant.letters (omega arith) c.split_at.ensures.back;
  so_far = letters_more c.loop-rest.rest.now c.split_at.result.0.now c.split_at.result.1.now (map stray_said c.loop-rest.strays.items) (map stray_said c.push.new.self.items) _
      (omega arith) c.split_at.ensures.front c.split_at.ensures.back (ap (map stray_said) c.in_ok-push.ensures.items ∙ map-append stray_said _ _ ∙ ap (λ s. map stray_said c.loop-rest.strays.items ++ s ∷ []) c.letter_of.ensures) c.loop-rest.invariant.so_far;
}
