use Rattle.markdown_page.proofs.Fronted.{blank_boundary}
use Rattle.markdown_page.proofs.line.push_after_blank.Goals as goal

pub range_from-requires : goal.range_from-requires
range_from-requires g c = λ _. blank_boundary c.args.line.now c.utf8.line c.requires
