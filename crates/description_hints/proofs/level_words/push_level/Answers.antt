use Rattle.std.proofs.lemmas.Result.{on_ok_weaker}
use Rattle.description_hints.specs.View.{words_said}
use Rattle.description_hints.proofs.Levels.{words_put}
use Rattle.description_hints.proofs.level_words.push_level.Goals as goal

pub returns : goal.returns
returns g c =
    on_ok_weaker c.push_groups.result
    (words_put c.args.level.now c.as_slice.result.now c.as_slice-2.result.now c.as_slice-3.result.now c.as_slice.ensures.value c.as_slice-2.ensures.value c.as_slice-3.ensures.value
    (words_said c.args.words.now.items) (words_said c.push_options.new.words.items) (words_said c.push_choices.new.words.items) (words_said c.push_groups.new.words.items)
    c.in_ok-push_options.ensures c.in_ok-push_choices.ensures)
    c.push_groups.ensures
