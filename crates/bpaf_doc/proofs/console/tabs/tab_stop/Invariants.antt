use Rattle.std.specs.Prelude.{◌≡◌}
use Rattle.bpaf_doc.proofs.lemmas.Console.Words.{false, tab_stop_from}
use Rattle.bpaf_doc.proofs.console.tabs.tab_stop.Given as goal

abbrev pub invariant-loop-part : goal.invariant-loop-part
invariant-loop-part l = tab_stop_from l.widest l.in_term l.term l.part-iterator ≡ tab_stop_from 0 false 0 l.fn.parts
