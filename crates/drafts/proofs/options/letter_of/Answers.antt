use Rattle.std.proofs.Common.{◌∙◌, sym}
use Rattle.drafts.proofs.Cuts.{short_cut}
use Rattle.drafts.proofs.options.letter_of.Goals as goal

pub range_from-requires : goal.range_from-requires
range_from-requires c = λ positive. short_cut c.args.name.now (sym c.is_short.ensures ∙ c.if-is_short.true) c.utf8.name
