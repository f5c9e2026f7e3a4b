use Rattle.std.proofs.Common.{rules, take-append-drop}
use Rattle.bpaf_doc.proofs.lemmas.Splitter.Runs.{run_first}
use Rattle.bpaf_doc.proofs.splitter.cut_run.Goals as goal

pub returns-clause-chunks : goal.returns-clause-chunks
returns-clause-chunks c = search (rules, take-append-drop, run_first)
