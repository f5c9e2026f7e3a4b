use Rattle.std.proofs.Common.{◌≡◌, ◌++◌, drop}
use Rattle.std.specs.Prelude.{flat_map}
use Rattle.description_toml.specs.Described.Steps.{views_of, words_of}
use Rattle.description_toml.specs.Described.Taken.{option_names}
use Rattle.description_toml.proofs.decode.taken.put_option_names.Given as goal

abbrev pub invariant-loop-option : goal.invariant-loop-option
invariant-loop-option g l = words_of l.names.items ++ flat_map (option_names l.are_two) (views_of (drop l.option-index l.options)) ≡ words_of l.fn.names.items ++ flat_map (option_names l.are_two) (views_of l.options)
