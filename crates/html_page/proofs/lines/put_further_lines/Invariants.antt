use Rattle.std.proofs.Common.{◌≡◌, ◌++◌, ◌∷◌, [], drop, flat_map, map}
use Rattle.page_model.specs.View.{line_of}
use Rattle.html_page.specs.Events.{break_line}
use Rattle.html_page.specs.Page.{line_events}
use Rattle.html_page.specs.Steps.{said}
use Rattle.html_page.proofs.lines.put_further_lines.Given as goal

abbrev pub invariant-loop-line : goal.invariant-loop-line
invariant-loop-line g l = said l.page (flat_map (λ line. break_line ∷ [] ++ line_events line) (map (λ line. line_of line.items) (drop l.line-index l.lines))) ≡ said l.fn.page (flat_map (λ line. break_line ∷ [] ++ line_events line) (map (λ line. line_of line.items) l.lines))
