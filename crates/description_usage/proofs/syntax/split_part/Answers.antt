use Rattle.std.proofs.Common.{arith}
use Rattle.std.proofs.lemmas.Str.{IsCharBoundary-after_ascii}
use Rattle.description_usage.proofs.syntax.split_part.Goals as goal

pub range_from-requires : goal.range_from-requires
range_from-requires c = λ positive. let at = rw c.as_bytes.ensures.value at c.in_ok-at.ensures in let byte = at.1 in IsCharBoundary-after_ascii c.args.text.now c.in_ok-at.at c.utf8.text at.0 (omega arith)
