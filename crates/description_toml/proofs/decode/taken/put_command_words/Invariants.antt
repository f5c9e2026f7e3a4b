use Rattle.std.proofs.Common.{◌≡◌, ◌++◌, drop}
use Rattle.std.specs.Prelude.{flat_map}
use Rattle.description_toml.specs.Described.Steps.{views_of, words_of}
use Rattle.description_toml.specs.Described.Taken.{command_words}
use Rattle.description_toml.proofs.decode.taken.put_command_words.Given as goal

abbrev pub invariant-loop-command : goal.invariant-loop-command
invariant-loop-command g l = words_of l.words.items ++ flat_map command_words (views_of (drop l.command-index l.commands)) ≡ words_of l.fn.words.items ++ flat_map command_words (views_of l.commands)
