use Rattle.std.proofs.Common.{rules}
use Rattle.bpaf_doc.proofs.lemmas.Splitter.CodeLines.{code_first}
use Rattle.bpaf_doc.proofs.splitter.cut_code.Goals as goal

pub returns : goal.returns
returns c = search (rules, code_first)
