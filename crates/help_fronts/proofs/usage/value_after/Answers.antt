use Rattle.std.proofs.Common.{◌∙◌, arith, sym}
use Rattle.std.proofs.lemmas.Str.{IsCharBoundary-after_ascii}
use Rattle.help_fronts.proofs.Boundaries.{stands}
use Rattle.help_fronts.proofs.usage.value_after.Goals as goal

pub range_from-requires : goal.range_from-requires
range_from-requires c = λ positive. IsCharBoundary-after_ascii c.args.after.now 0 c.utf8.after (stands c.args.after.now 0 32 (sym c.byte_at.ensures ∙ c.if-byte_at-eq32.true) (omega arith)) (omega arith)
