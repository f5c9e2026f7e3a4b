use Rattle.std.proofs.Common.{sym, ◌∙◌}
use Rattle.clidoc_engine.specs.Chosen.{words_said}
use Rattle.clidoc_engine.proofs.Choosing.{no_choice}
use Rattle.clidoc_engine.proofs.words.choose.Goals as goal

pub returns-clause-err : goal.returns-clause-err
returns-clause-err g c =
    no_choice c.args.terminal (words_said c.args.words.now) c.with_input.result c.with_input.ensures.err (sym c.is_one_of.ensures ∙ c.if-is_one_of.false) (sym c.is_one_of-2.ensures ∙ c.if-is_one_of-2.false)
