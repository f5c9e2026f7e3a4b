use Rattle.bpaf_doc.proofs.lemmas.Buffer.Lines.{split_line-from}
use Rattle.bpaf_doc.proofs.buffer.split_line.Goals as goal

pub returns : goal.returns
returns c = split_line-from c.args.text.now c.split_once.result c.split_once.ensures.cases
