use Rattle.std.proofs.Common.{◌≡◌, ◌++◌, map, take, string_bytes}
use Rattle.std.specs.Prelude.{flat_map}
use Rattle.page_model.specs.View.{line_of}
use Rattle.markdown_page.specs.Steps.{written_line}
use Rattle.markdown_page.proofs.block.push_further_lines.Given as goal

abbrev pub invariant-loop-line : goal.invariant-loop-line
invariant-loop-line g l = string_bytes l.writer.page ≡ string_bytes l.initial.writer.page ++ flat_map (written_line l.level) (map (λ line. line_of line.items) (take l.line-index l.lines))
