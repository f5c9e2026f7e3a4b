use Rattle.std.proofs.Common.{◌++◌, ◌∷◌, sym, ap, ◌∙◌}
use Rattle.clidoc_engine.specs.Chosen.{choice_said, words_said}
use Rattle.clidoc_engine.specs.Reading.{given_of}
use Rattle.clidoc_engine.proofs.Choosing.{chosen}
use Rattle.clidoc_engine.proofs.words.with_input.Goals as goal

pub returns-clause-ok : goal.returns-clause-ok
returns-clause-ok g c =
    chosen choice_said c.args.terminal (words_said c.args.words.now) c.in_ok-word.word.now (words_said c.deref-3.result.now) (given_of c.in_ok-given.given) c.taken.result
    (record {
      given = c.in_ok-given.ensures.ok;
      plain = sym (ap (λ ws. words_said ws ++ words_said c.deref-2.result.now) c.deref.ensures.value ∙ ap (λ ws. words_said c.in_ok-given.given.plain.items ++ words_said ws) c.deref-2.ensures.value) ∙ c.in_ok-word.ensures.ok ∙ ap (λ ws. c.in_ok-word.word.now ∷ words_said ws) (sym c.deref-3.ensures.value);
      first = λ none. c.in_ok-word.ensures.first (ap words_said c.deref.ensures.value ∙ none);
    }) c.taken.ensures.ok
