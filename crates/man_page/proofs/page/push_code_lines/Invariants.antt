use Rattle.std.proofs.Common.{◌≡◌, ◌++◌, map, take, string_bytes}
use Rattle.std.specs.Prelude.{flat_map}
use Rattle.man_page.specs.Exact.{code_line}
use Rattle.man_page.proofs.page.push_code_lines.Given as goal

abbrev pub invariant-loop-line : goal.invariant-loop-line
invariant-loop-line g l = string_bytes l.writer.page ≡ string_bytes l.initial.writer.page ++ flat_map code_line (map (λ line. line.now) (take l.line-index l.lines))
