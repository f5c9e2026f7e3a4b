use Rattle.std.proofs.Common.{◌≡◌, ◌+◌, drop}
use Rattle.bpaf_doc.proofs.lemmas.Console.Places.{first_end}
use Rattle.bpaf_doc.proofs.console.pairs.section4_end.Given as goal

abbrev pub invariant-loop-at : goal.invariant-loop-at
invariant-loop-at g l = l.at + first_end (drop l.at l.doc) ≡ l.index + 1 + first_end (drop (l.index + 1) l.doc)
