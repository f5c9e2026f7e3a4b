use Rattle.page_model.specs.View.{piece_of}
use Rattle.description_pages.proofs.Shortened.{lengths_differ}
use Rattle.description_pages.proofs.summaries.same_line.Goals as goal

pub returns-then-line-other : goal.returns-then-line-other
returns-then-line-other c = lengths_differ piece_of c.args.line.now c.args.other.now c.if-line-other.true
