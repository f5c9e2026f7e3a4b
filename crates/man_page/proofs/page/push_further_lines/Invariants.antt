use Rattle.std.proofs.Common.{◌≡◌, ◌++◌, map, take, string_bytes}
use Rattle.std.specs.Prelude.{flat_map}
use Rattle.page_model.specs.View.{line_of}
use Rattle.man_page.specs.Steps.{further_line}
use Rattle.man_page.proofs.page.push_further_lines.Given as goal

abbrev pub invariant-loop-line : goal.invariant-loop-line
invariant-loop-line g l = string_bytes l.writer.page ≡ string_bytes l.initial.writer.page ++ flat_map (further_line l.section) (map (λ line. line_of line.items) (take l.line-index l.lines))
