use Rattle.std.proofs.Common.{◌∙◌, sym}
use Rattle.drafts.proofs.Cuts.{long_cut}
use Rattle.drafts.proofs.options.word_of.Goals as goal

pub range_from-requires : goal.range_from-requires
range_from-requires c = λ positive. long_cut c.args.name.now (sym c.is_long.ensures ∙ c.if-is_long.true) c.utf8.name
