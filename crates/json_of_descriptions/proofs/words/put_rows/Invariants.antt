use Rattle.std.proofs.Common.{take}
use Rattle.json_of_descriptions.specs.Steps.{PutsFields}
use Rattle.json_of_descriptions.proofs.Usual.{all_words}
use Rattle.json_of_descriptions.proofs.words.put_rows.Given as goal

abbrev pub invariant-loop-row : goal.invariant-loop-row
invariant-loop-row g l = PutsFields l.fn.out l.out (all_words (take l.row-index l.rows))
