use Rattle.std.proofs.Common.{◌∙◌, ap, sym}
use Rattle.drafts.specs.Usages.{has_or}
use Rattle.drafts.proofs.Cuts.{or_cut}
use Rattle.drafts.proofs.usages.form_in.Goals as goal

pub range_from-requires : goal.range_from-requires
range_from-requires c = λ positive. or_cut c.args.text.now (ap has_or (sym c.as_bytes.ensures.value) ∙ sym c.has_or.ensures ∙ c.if-has_or.true) c.utf8.text
