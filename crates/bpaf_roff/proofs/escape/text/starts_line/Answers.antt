use Rattle.std.proofs.lemmas.List.{nil_from_length}
use Rattle.bpaf_roff.proofs.lemmas.Texts.{line_start_by_last, line_start_by_none}
use Rattle.bpaf_roff.proofs.escape.text.starts_line.Goals as goal

pub returns-in-Some : goal.returns-in-Some
returns-in-Some c = line_start_by_last c.args.context.at_line_start c.args.context.label c.args.bytes.now c.in-Some.field-0-1.now c.in-Some.last.now c.in-Some.ensures.cases.0 c.ends_line.result c.ends_line.ensures c.args.context.apostrophes

pub returns-in-None : goal.returns-in-None
returns-in-None c = line_start_by_none c.args.context.at_line_start c.args.context.label c.args.bytes.now (nil_from_length c.args.bytes.now c.in-None.ensures.cases) c.args.context.apostrophes
