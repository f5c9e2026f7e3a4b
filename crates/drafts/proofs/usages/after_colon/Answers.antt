use Rattle.std.proofs.Common.{◌∙◌, ap, get_or, sym}
use Rattle.drafts.proofs.Cuts.{colon_cut}
use Rattle.drafts.proofs.usages.after_colon.Goals as goal

pub range_from-requires : goal.range_from-requires
range_from-requires c = λ positive. colon_cut c.args.text.now (ap (λ bytes. get_or bytes 0 0) (sym c.as_bytes.ensures.value) ∙ sym c.byte_at.ensures ∙ c.if-byte_at-eq58.true) c.utf8.text
