use Rattle.std.proofs.lemmas.Str.{IsCharBoundary-after_ascii}
use Rattle.completions.proofs.syntax.split_word.Goals as goal

pub range_from-requires : goal.range_from-requires
range_from-requires c = λ positive. let at = rw c.as_bytes.ensures.value at c.in_ok-at.ensures in IsCharBoundary-after_ascii c.args.text.now c.in_ok-at.at c.utf8.text at.0 at.1
