use Rattle.std.proofs.Common.{arith}
use Rattle.description_texts.proofs.TextsBounds.{after_blanks}
use Rattle.description_texts.proofs.texts.marked.Goals as goal

pub range_from-requires : goal.range_from-requires
range_from-requires c = λ _. after_blanks c.args.line.now c.blanks.result c.utf8.line (omega (arith, c.blanks.ensures))
