use Rattle.std.proofs.Common.{◌≡◌, ◌++◌, map, take, string_bytes}
use Rattle.std.specs.Prelude.{flat_map}
use Rattle.markdown_page.specs.Exact.{code_line}
use Rattle.markdown_page.proofs.block.push_code_lines.Given as goal

abbrev pub invariant-loop-line : goal.invariant-loop-line
invariant-loop-line g l = string_bytes l.page ≡ string_bytes l.initial.page ++ flat_map (code_line l.level) (map (λ line. line.now) (take l.line-index l.lines))
