use Rattle.std.proofs.Common.{◌∙◌, ap}
use Rattle.description.specs.Words.{words_said}
use Rattle.description_hints.specs.Names.{is_among, known_words}
use Rattle.description_hints.proofs.around.around_of.Goals as goal

pub returns : goal.returns
returns g c = λ i. record {
  fixed = words_said c.args.description.now.words;
  is_option_word = λ word. (c.in_ok-option_words.ensures word ∙ ap (λ sites. is_among (known_words sites) word) c.requires) i;
  is_help_word = λ word. c.in_ok-help_words.ensures word i;
  is_help_name = λ name. c.in_ok-help_names.ensures name i;
}
