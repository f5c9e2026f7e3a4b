use Rattle.std.proofs.Common.{rules}
use Rattle.bpaf_doc.proofs.lemmas.Splitter.FirstChunk.{stripped, lacks_front, code_line_first, line_break_first, newline_first}
use Rattle.bpaf_doc.proofs.splitter.after_newline.Goals as goal

pub returns-in-Some-strip_prefix : goal.returns-in-Some-strip_prefix
returns-in-Some-strip_prefix c = search (rules, code_line_first, stripped)

pub returns-in_default-strip_prefix : goal.returns-in_default-strip_prefix
returns-in_default-strip_prefix c = search (rules, line_break_first, lacks_front)

pub returns-in_default-strip_byte : goal.returns-in_default-strip_byte
returns-in_default-strip_byte c =
    newline_first c.args.text.now c.split-in_default-strip_byte.result c.in_default.ensures c.in_default-strip_byte.ensures c.split-in_default-strip_byte.ensures.value
