use Rattle.std.proofs.Common.{◌≡◌, ◌++◌, drop}
use Rattle.toml.specs.View.{items_view}
use Rattle.description_toml.specs.Described.Steps.{words_of}
use Rattle.description_toml.specs.Described.Taken.{texts_in}
use Rattle.description_toml.proofs.decode.taken.put_texts_in.Given as goal

abbrev pub invariant-loop-item : goal.invariant-loop-item
invariant-loop-item g l = words_of l.texts.items ++ texts_in (items_view (drop l.item-index l.items)) ≡ words_of l.fn.texts.items ++ texts_in (items_view l.items)
