use Rattle.std.proofs.Common.{◌≡◌, drop}
use Rattle.page_model.specs.View.{line_of}
use Rattle.description_pages.specs.Summaries.{same_line}
use Rattle.description_pages.proofs.summaries.same_line.Given as goal

abbrev pub invariant-loop-at : goal.invariant-loop-at
invariant-loop-at l =
    same_line (line_of (drop l.at l.line)) (line_of (drop l.at l.other)) ≡ same_line (line_of l.line) (line_of l.other)
