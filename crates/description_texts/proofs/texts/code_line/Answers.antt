use Rattle.std.proofs.Common.{arith}
use Rattle.description_texts.proofs.TextsBounds.{after_blanks}
use Rattle.description_texts.proofs.texts.code_line.Goals as goal

pub range_from-requires : goal.range_from-requires
range_from-requires c = λ _. after_blanks c.args.line.now c.min.result c.utf8.line (omega (arith, c.min.ensures, c.blanks.ensures))
