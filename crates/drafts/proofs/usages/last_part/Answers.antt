use Rattle.std.proofs.Common.{rules}
use Rattle.drafts.proofs.Cuts.{slash_cut}
use Rattle.drafts.proofs.usages.last_part.Goals as goal

pub range_from-requires : goal.range_from-requires
range_from-requires c = λ positive. slash_cut c.args.text.now c.last_part_start.result c.utf8.text (search rules) (rw c.as_bytes.ensures.value at c.last_part_start.ensures.slash)
