use Rattle.std.proofs.Common.{arith}
use Rattle.bpaf_doc.proofs.lemmas.Splitter.Runs.{newline_run, whole_run, last_blank_run}
use Rattle.bpaf_doc.proofs.splitter.first_line_end.Goals as goal

pub returns-in-Some-clause-run : goal.returns-in-Some-clause-run
returns-in-Some-clause-run c = λ _.
    newline_run c.args.bytes.now c.split_at.result.0.now c.min.result (omega (arith, c.min.ensures)) c.split_at.ensures.front c.in-Some.end c.in-Some.ensures.0 c.in-Some.ensures.1

pub returns-then-bytes-longest-clause-run : goal.returns-then-bytes-longest-clause-run
returns-then-bytes-longest-clause-run c = λ _.
    whole_run c.args.bytes.now c.split_at.result.0.now c.min.result (omega (arith, c.min.ensures)) c.split_at.ensures.front (omega (arith, c.min.ensures, c.if-bytes-longest.true)) c.in_default.ensures

pub returns-clause-run : goal.returns-clause-run
returns-clause-run c = grind (arith, last_blank_run)
